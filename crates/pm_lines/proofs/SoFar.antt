-- What a reader read of a source, from call to call.
use Rattle.std.proofs.Common.{◌≡◌, ℕ, ◌<◌, ◌≤◌, ◌+◌, true, false, List, [], ◌∷◌, ◌++◌, take, drop, length, Option, Some, None, IfSome, ap, subst, sym, ◌∙◌, refl, append_assoc, append-nil, arith, length-drop}
use Rattle.std.proofs.Math.Seq.{take-add}
use Rattle.std.proofs.lemmas.List.{drop-drop, take-append-drop}
use Rattle.pm_lines.proofs.LineLaws.{clear_append, last_line, lines_at_break, lines_of-open, whole_of-open}
use Rattle.pm_lines.specs.Coming.{Answers, BreaksOff, Ended, Exceeds, Gave, IsOver, LetsGo, ReaderSeen, Refilled}
use Rattle.pm_lines.specs.Whole.{HasNoBreak, whole_lines}
use Rattle.pm_command.specs.Lines.{Line, lines_of}
use Rattle.pm_store.specs.Outside.{IsAtEnd, StaysTold}
use Rattle.pm_limits.specs.Limits.{most_script_bytes}

-- n bytes more were given, and all that was given stands in the line at hand and after it
pub record ReadsOn (all : List ℕ) (left : Option (List ℕ)) (old new : ReaderSeen) : Type 0 where
  pub n : ℕ
  pub gave : Gave n all left old new
  pub bytes : old.given ++ take n all ≡ new.line.bytes ++ new.given

-- all bytes, in those that were given and those that are left
all_bytes : (given all : List ℕ) (n : ℕ) → given ++ all ≡ (given ++ take n all) ++ drop n all
all_bytes given all n = ap (λ (t : List ℕ). given ++ t) (sym (take-append-drop n all)) ∙ sym (append_assoc given (take n all) (drop n all))

-- an LF was given
pub answers_ended : (all part : List ℕ) (left : Option (List ℕ)) (old mid new : ReaderSeen) → ReadsOn all left old mid → HasNoBreak mid.line.bytes
    → Ended mid new part → new.read ≡ mid.read → Answers all left old new
answers_ended all part left old mid new reads clear ended same =
    let q = mid.line.bytes ++ part in
    let no_break : HasNoBreak q = clear_append mid.line.bytes part clear ended.clear in
    let given : old.given ++ take reads.n all ≡ q ++ 10 ∷ new.given =
    reads.bytes ∙ ap (λ (t : List ℕ). mid.line.bytes ++ t) ended.given ∙ sym (append_assoc mid.line.bytes part (10 ∷ new.given)) in
    let rest = drop reads.n all in
    let bytes : old.given ++ all ≡ q ++ 10 ∷ (new.given ++ rest) =
    all_bytes old.given all reads.n ∙ ap (λ (t : List ℕ). t ++ rest) given ∙ append_assoc q (10 ∷ new.given) rest in (
      reads.n,
      record { within = reads.gave.within; others = reads.gave.others; read = same ∙ reads.gave.read },
      record {
        lines = ap lines_of bytes ∙ lines_at_break q (new.given ++ rest) no_break ∙ ap (λ (line : Line). line ∷ lines_of (new.given ++ rest)) (sym ended.line);
        clear = subst (λ (line : Line). HasNoBreak line.bytes) (sym ended.line) no_break;
        bytes = λ e. given ∙ ap (λ (line : Line). line.bytes ++ 10 ∷ new.given) (sym ended.line);
        last = λ e. let bad : new.line.ended ≡ true = ap (λ (line : Line). line.ended) ended.line in cc;
      },
    )

-- more bytes were given
pub reads_more : (all : List ℕ) (mid left : Option (List ℕ)) (old had after new : ReaderSeen) → ReadsOn all mid old had
    → after.line.bytes ≡ had.line.bytes ++ had.given → after.read ≡ had.read
    → new.line.bytes ≡ after.line.bytes → new.read ≡ after.read + length new.given
    → IfSome mid (λ rest. Refilled rest left after new) → ReadsOn all left old new
reads_more all mid left old had after new reads line read same_line more refilled =
    let filled : Refilled (drop reads.n all) left after new = rw reads.gave.others at refilled in
    let k = length new.given in
    record {
      n = reads.n + k;
      gave = record {
        within = let room = filled.within in let within = reads.gave.within in omega (arith, length-drop reads.n all);
        others = filled.others ∙ ap (λ (t : List ℕ). Some t) (drop-drop k reads.n all);
        read = let had_read = reads.gave.read in omega arith;
      };
      bytes =
          ap (λ (t : List ℕ). old.given ++ t) (take-add reads.n k all)
          ∙ sym (append_assoc old.given (take reads.n all) (take k (drop reads.n all)))
          ∙ ap (λ (t : List ℕ). t ++ take k (drop reads.n all)) (reads.bytes ∙ sym (same_line ∙ line))
          ∙ ap (λ (t : List ℕ). new.line.bytes ++ t) (sym filled.given);
    }

-- what was given has no LF
given_clear : (all : List ℕ) (left : Option (List ℕ)) (old had : ReaderSeen) (reads : ReadsOn all left old had) → HasNoBreak had.line.bytes → HasNoBreak had.given
    → whole_lines (old.given ++ take reads.n all) ≡ []
given_clear all left old had reads clear given = rw reads.bytes (whole_of-open (had.line.bytes ++ had.given) (clear_append had.line.bytes had.given clear given))

-- the source failed
pub breaks_off : (all : List ℕ) (mid left : Option (List ℕ)) (old had new : ReaderSeen) → ReadsOn all mid old had → HasNoBreak had.line.bytes → HasNoBreak had.given
    → StaysTold mid left → new.read ≡ had.read → BreaksOff all left old new
breaks_off all mid left old had new reads clear given stays same =
    let stayed : left ≡ Some (drop reads.n all) = rw reads.gave.others at stays in
    (reads.n, record { within = reads.gave.within; others = stayed; read = same ∙ reads.gave.read }, given_clear all mid old had reads clear given)

-- memory ran out where what was given was to be added to the line
pub lets_go : (all : List ℕ) (left : Option (List ℕ)) (old had new : ReaderSeen) → ReadsOn all left old had → HasNoBreak had.line.bytes → new.given ≡ had.given → new.read ≡ had.read → LetsGo all left old new
lets_go all left old had new reads clear given read = record {
  n = reads.n;
  gone = had.line.bytes;
  gave = record { within = reads.gave.within; others = reads.gave.others; read = read ∙ reads.gave.read };
  clear = clear;
  bytes = reads.bytes ∙ ap (λ (t : List ℕ). had.line.bytes ++ t) (sym given);
}

-- it gave a byte too many
pub exceeds : (all : List ℕ) (mid left : Option (List ℕ)) (old had : ReaderSeen) → ReadsOn all mid old had → HasNoBreak had.line.bytes → HasNoBreak had.given
    → had.read ≡ most_script_bytes → IfSome mid (λ rest. (0 < length rest) × (left ≡ Some (drop 1 rest))) → Exceeds all left old
exceeds all mid left old had reads clear given full over =
    let more : (0 < length (drop reads.n all)) × (left ≡ Some (drop 1 (drop reads.n all))) = rw reads.gave.others at over in
    let some = more.0 in (
      reads.n,
      omega (arith, length-drop reads.n all),
      more.1 ∙ ap (λ (t : List ℕ). Some t) (drop-drop 1 reads.n all),
      sym reads.gave.read ∙ full,
      given_clear all mid old had reads clear given,
    )

-- nothing is left
pub record Done (all : List ℕ) (left : Option (List ℕ)) (old had : ReaderSeen) (bytes : List ℕ) : Type 0 where
  pub n : ℕ
  pub within : n ≤ length all
  pub others : left ≡ Some (drop n all)
  pub none : drop n all ≡ []
  pub bytes_are : old.given ++ take n all ≡ bytes
  pub read_is : had.read ≡ old.read + n

pub done : (all : List ℕ) (mid left : Option (List ℕ)) (old had : ReaderSeen) → ReadsOn all mid old had → IsAtEnd mid → StaysTold mid left
    → Done all left old had (had.line.bytes ++ had.given)
done all mid left old had reads at_end stays = record {
  n = reads.n;
  within = reads.gave.within;
  others = rw reads.gave.others at stays;
  none = rw reads.gave.others at at_end;
  bytes_are = reads.bytes;
  read_is = reads.gave.read;
}

append_nil : (xs ys : List ℕ) → xs ++ ys ≡ [] → (xs ≡ []) × (ys ≡ [])
append_nil [] ys e = (refl, e)
append_nil (x ∷ xs) ys e = cc

pub is_over : (all : List ℕ) (left : Option (List ℕ)) (old had : ReaderSeen) (bytes : List ℕ) → Done all left old had bytes → bytes ≡ [] → IsOver all left old
is_over all left old had bytes d e =
    let nothing = append_nil old.given (take d.n all) (d.bytes_are ∙ e) in
    let all_is : all ≡ [] = sym (take-append-drop d.n all) ∙ ap (λ (t : List ℕ). t ++ drop d.n all) nothing.1 ∙ d.none in
    (nothing.0, all_is, d.others ∙ ap (λ (t : List ℕ). Some t) d.none)

pub answers_last : (all : List ℕ) (left : Option (List ℕ)) (old had new : ReaderSeen) (bytes : List ℕ) (d : Done all left old had bytes) → 0 < length bytes → HasNoBreak bytes
    → new.line ≡ last_line bytes → new.given ≡ [] → new.read ≡ had.read → Answers all left old new
answers_last all left old had new [] d some clear line given read = absurd (omega arith)
answers_last all left old had new (b ∷ bytes) d some clear line given read =
    let all_is : old.given ++ all ≡ b ∷ bytes =
    all_bytes old.given all d.n ∙ ap (λ (t : List ℕ). (old.given ++ take d.n all) ++ t) d.none ∙ append-nil (old.given ++ take d.n all) ∙ d.bytes_are in
    let rest_is : new.given ++ drop d.n all ≡ [] = ap (λ (t : List ℕ). t ++ drop d.n all) given ∙ d.none in (
      d.n,
      record { within = d.within; others = d.others; read = read ∙ d.read_is },
      record {
        lines =
            ap lines_of all_is ∙ lines_of-open b bytes clear
            ∙ ap (λ (l : Line). l ∷ []) (sym line) ∙ ap (λ (t : List ℕ). new.line ∷ lines_of t) (sym rest_is);
        clear = subst (λ (l : Line). HasNoBreak l.bytes) (sym line) clear;
        bytes = λ e. let bad : new.line.ended ≡ false = ap (λ (l : Line). l.ended) line in cc;
        last = λ e. (given, d.none);
      },
    )

-- ---- the same, of a source that may tell what it has left

pub told_ended : (o mid : Option (List ℕ)) (part : List ℕ) (old had new : ReaderSeen) → IfSome o (λ all. ReadsOn all mid old had) → HasNoBreak had.line.bytes
    → Ended had new part → new.read ≡ had.read → IfSome o (λ all. Answers all mid old new)
told_ended None mid part old had new reads clear ended same = tt
told_ended (Some all) mid part old had new reads clear ended same = answers_ended all part mid old had new reads clear ended same

pub told_more : (o mid left : Option (List ℕ)) (old had after new : ReaderSeen) → IfSome o (λ all. ReadsOn all mid old had)
    → after.line.bytes ≡ had.line.bytes ++ had.given → after.read ≡ had.read
    → new.line.bytes ≡ after.line.bytes → new.read ≡ after.read + length new.given
    → IfSome mid (λ rest. Refilled rest left after new) → IfSome o (λ all. ReadsOn all left old new)
told_more None mid left old had after new reads line read same_line more refilled = tt
told_more (Some all) mid left old had after new reads line read same_line more refilled =
    reads_more all mid left old had after new reads line read same_line more refilled

pub told_off : (o mid left : Option (List ℕ)) (old had new : ReaderSeen) → IfSome o (λ all. ReadsOn all mid old had) → HasNoBreak had.line.bytes → HasNoBreak had.given
    → StaysTold mid left → new.read ≡ had.read → IfSome o (λ all. BreaksOff all left old new)
told_off None mid left old had new reads clear given stays same = tt
told_off (Some all) mid left old had new reads clear given stays same = breaks_off all mid left old had new reads clear given stays same

pub told_lets_go : (o left : Option (List ℕ)) (old had new : ReaderSeen) → IfSome o (λ all. ReadsOn all left old had) → HasNoBreak had.line.bytes → new.given ≡ had.given → new.read ≡ had.read
    → IfSome o (λ all. LetsGo all left old new)
told_lets_go None left old had new reads clear given read = tt
told_lets_go (Some all) left old had new reads clear given read = lets_go all left old had new reads clear given read

pub told_exceeds : (o mid left : Option (List ℕ)) (old had : ReaderSeen) → IfSome o (λ all. ReadsOn all mid old had) → HasNoBreak had.line.bytes → HasNoBreak had.given
    → had.read ≡ most_script_bytes → IfSome mid (λ rest. (0 < length rest) × (left ≡ Some (drop 1 rest))) → IfSome o (λ all. Exceeds all left old)
told_exceeds None mid left old had reads clear given full over = tt
told_exceeds (Some all) mid left old had reads clear given full over = exceeds all mid left old had reads clear given full over

pub told_over : (o mid left : Option (List ℕ)) (old had : ReaderSeen) → IfSome o (λ all. ReadsOn all mid old had) → IsAtEnd mid → StaysTold mid left
    → had.line.bytes ++ had.given ≡ [] → IfSome o (λ all. IsOver all left old)
told_over None mid left old had reads at_end stays none = tt
told_over (Some all) mid left old had reads at_end stays none =
    is_over all left old had (had.line.bytes ++ had.given) (done all mid left old had reads at_end stays) none

pub told_last : (o mid left : Option (List ℕ)) (old had new : ReaderSeen) → IfSome o (λ all. ReadsOn all mid old had) → IsAtEnd mid → StaysTold mid left
    → 0 < length (had.line.bytes ++ had.given) → HasNoBreak (had.line.bytes ++ had.given) → new.line ≡ last_line (had.line.bytes ++ had.given)
    → new.given ≡ [] → new.read ≡ had.read → IfSome o (λ all. Answers all left old new)
told_last None mid left old had new reads at_end stays some clear line given read = tt
told_last (Some all) mid left old had new reads at_end stays some clear line given read =
    answers_last all left old had new (had.line.bytes ++ had.given) (done all mid left old had reads at_end stays) some clear line given read

-- where no LF stands in what was given, no whole line does
pub no_whole : (old had : ReaderSeen) → HasNoBreak had.given → had.given ≡ old.given → whole_lines old.given ≡ []
no_whole old had clear same = subst (λ (t : List ℕ). whole_lines t ≡ []) same (whole_of-open had.given clear)
