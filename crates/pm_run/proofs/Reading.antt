-- What was read of a script, from line to line, and which lines these are.
use Rattle.std.proofs.Common.{ap, sym, refl, inl, inr, ◌∙◌, ◌≡◌, ◌==◌, ◌+◌, ◌≤◌, ℕ, Bool, true, false, not, List, [], ◌∷◌, ◌++◌, Option, Some, None, IfSome, Ok, Err, take, drop, filter, if◌then◌else◌, length, arith, append_assoc, append-nil, length-append, length-drop}
use Rattle.std.proofs.Math.Seq.{drop-append-add, take-append-add}
use Rattle.std.proofs.lemmas.Bool.{cases_Bool, not-false, not-true}
use Rattle.pm_lines.proofs.Callers.{Answered, answered_all, answered_before, answered_ended, answered_last, answered_none, answered_whole}
use Rattle.pm_lines.specs.Coming.{Answers, BreaksOff, Exceeds, IsOver, ReaderSeen, most_ahead}
use Rattle.pm_lines.specs.Whole.{whole_lines}
use Rattle.pm_command.specs.Lines.{Line, lines_of, onto_first}
use Rattle.pm_run.specs.Ends.{IsRead, IsReadSoFar, bytes_in}
use Rattle.pm_run.specs.declared.status.RunFail.TheVariants as why
use Rattle.pm_limits.specs.Limits.{most_script_bytes}

-- the first lines came of all that the source had left, and so many bytes were read
pub record Reads (all : List ℕ) (first : List Line) (left : Option (List ℕ)) (r : ReaderSeen) : Type 0 where
  pub answered : Answered all first left r
  pub count : r.read + length answered.rest ≡ length all

-- they are all lines of it
pub record ReadsAll (all : List ℕ) (first : List Line) (left : Option (List ℕ)) : Type 0 where
  pub lines : first ≡ lines_of all
  pub short : length all ≤ most_script_bytes
  pub none : left ≡ Some []

-- the one until the source said that nothing is left, and the other then, where the source tells what it has left
pub record HasRead (script left : Option (List ℕ)) (first : List Line) (r : ReaderSeen) : Type 0 where
  pub some : r.at_end ≡ false → IfSome script (λ all. Reads all first left r)
  pub whole : r.at_end ≡ true → IfSome script (λ all. ReadsAll all first left)

-- what is left is one list
rest_is : (all xs : List ℕ) (first : List Line) (left : Option (List ℕ)) (r : ReaderSeen) (a : Answered all first left r) → left ≡ Some xs → a.rest ≡ xs
rest_is all xs first left r a e = let is = a.left_is in cc

-- ---- the beginning
begins : (script : Option (List ℕ)) (r : ReaderSeen) → r.given ≡ [] → r.read ≡ 0 → IfSome script (λ all. Reads all [] script r)
begins None r given read = tt
begins (Some all) r given read =
    let a = answered_none all (Some all) r refl given in
    let rest : length a.rest ≡ length all = ap length (rest_is all all [] (Some all) r a refl) in
    record { answered = a; count = omega arith }

pub read_none : (script : Option (List ℕ)) (r : ReaderSeen) → r.given ≡ [] → r.read ≡ 0 → r.at_end ≡ false → HasRead script script [] r
read_none script r given read goes_on = record { some = λ _. begins script r given read; whole = λ e. cc }

-- ---- one line more
-- an LF ended it
reads_on : (all : List ℕ) (first : List Line) (mid left : Option (List ℕ)) (r new : ReaderSeen) (h : Reads all first mid r) → r.at_end ≡ false
    → Answers h.answered.rest left r new → new.line.ended ≡ true → Reads all (first ++ new.line ∷ []) left new
reads_on all first mid left r new h goes_on answers ended =
    let rest = h.answered.rest in
    let gave = answers.1 in
    let a = answered_ended all first mid left r new h.answered goes_on answers ended in
    let left_now : length a.rest ≡ length (drop answers.0 rest) = ap length (rest_is all (drop answers.0 rest) (first ++ new.line ∷ []) left new a gave.others) in
    let dropped = length-drop answers.0 rest in
    let within = gave.within in
    let read = gave.read in
    let count = h.count in
    record { answered = a; count = omega arith }

-- the end ended it
reads_last : (all : List ℕ) (first : List Line) (mid left : Option (List ℕ)) (r new : ReaderSeen) (h : Reads all first mid r)
    → Answers h.answered.rest left r new → new.line.ended ≡ false → new.read ≤ most_script_bytes → ReadsAll all (first ++ new.line ∷ []) left
reads_last all first mid left r new h answers open_line bound =
    let rest = h.answered.rest in
    let gave = answers.1 in
    let nothing : drop answers.0 rest ≡ [] = (answers.2.last open_line).1 in
    let none : length rest ≤ answers.0 = let e = ap length nothing in let d = length-drop answers.0 rest in omega arith in
    let within = gave.within in
    let read = gave.read in
    let count = h.count in
    record {
      lines = sym (answered_last all first mid left r new h.answered answers open_line);
      short = omega arith;
      none = gave.others ∙ ap (λ (t : List ℕ). Some t) nothing;
    }

some_next : (script mid left : Option (List ℕ)) (first : List Line) (r new : ReaderSeen) → HasRead script mid first r → r.at_end ≡ false
    → IfSome mid (λ all. Answers all left r new) → new.line.ended ≡ true → IfSome script (λ all. Reads all (first ++ new.line ∷ []) left new)
some_next None mid left first r new s goes_on answers ended = tt
some_next (Some all) mid left first r new s goes_on answers ended =
    let h = s.some goes_on in
    reads_on all first mid left r new h goes_on (rw h.answered.left_is at answers) ended

whole_next : (script mid left : Option (List ℕ)) (first : List Line) (r new : ReaderSeen) → HasRead script mid first r → r.at_end ≡ false
    → IfSome mid (λ all. Answers all left r new) → new.line.ended ≡ false → new.read ≤ most_script_bytes → IfSome script (λ all. ReadsAll all (first ++ new.line ∷ []) left)
whole_next None mid left first r new s goes_on answers open_line bound = tt
whole_next (Some all) mid left first r new s goes_on answers open_line bound =
    let h = s.some goes_on in
    reads_last all first mid left r new h (rw h.answered.left_is at answers) open_line bound

pub read_next : (script mid left : Option (List ℕ)) (first : List Line) (r new : ReaderSeen) → HasRead script mid first r → r.at_end ≡ false
    → IfSome mid (λ all. Answers all left r new) → new.at_end ≡ not new.line.ended → new.read ≤ most_script_bytes → HasRead script left (first ++ new.line ∷ []) new
read_next script mid left first r new s goes_on answers last bound = record {
  some = λ e. some_next script mid left first r new s goes_on answers (not-false new.line.ended (sym last ∙ e));
  whole = λ e. whole_next script mid left first r new s goes_on answers (not-true new.line.ended (sym last ∙ e)) bound;
}

-- ---- the end
over_some : (script mid left : Option (List ℕ)) (first : List Line) (r : ReaderSeen) → HasRead script mid first r → r.at_end ≡ false → r.read ≤ most_script_bytes
    → IfSome mid (λ all. IsOver all left r) → IfSome script (λ all. (first ≡ lines_of all) × (length all ≤ most_script_bytes) × (left ≡ Some []))
over_some None mid left first r s goes_on bound over = tt
over_some (Some all) mid left first r s goes_on bound over =
    let h = s.some goes_on in
    let is : IsOver h.answered.rest left r = rw h.answered.left_is at over in
    let none : length h.answered.rest ≡ 0 = ap length is.1 in
    let count = h.count in
    (sym (answered_all all first mid left r h.answered is), omega arith, is.2)

over_whole : (script mid left : Option (List ℕ)) (first : List Line) (r : ReaderSeen) → HasRead script mid first r → r.at_end ≡ true → left ≡ mid
    → IfSome script (λ all. (first ≡ lines_of all) × (length all ≤ most_script_bytes) × (left ≡ Some []))
over_whole None mid left first r s ended same = tt
over_whole (Some all) mid left first r s ended same =
    let h = s.whole ended in
    (h.lines, h.short, same ∙ h.none)

pub read_over : (script mid left : Option (List ℕ)) (first : List Line) (r : ReaderSeen) (some : Bool) → HasRead script mid first r → r.read ≤ most_script_bytes
    → (r.at_end ≡ false → IfSome mid (λ all. IsOver all left r)) → (r.at_end ≡ true → left ≡ mid) → IsRead script left (Ok some) first
read_over script mid left first r some s bound over same = elim (cases_Bool r.at_end) [
  | inl e ↦ over_whole script mid left first r s e (same e)
  | inr e ↦ over_some script mid left first r s e bound (over e)
]

-- ---- the source failed, or gave a byte too many
-- the bytes that were given and those that are left
record Parts (all : List ℕ) (first : List Line) (left : Option (List ℕ)) (r : ReaderSeen) (h : Reads all first left r) : Type 0 where
  bytes : all ≡ (h.answered.past ++ r.given) ++ h.answered.rest
  count : length (h.answered.past ++ r.given) ≡ r.read

parts : (all : List ℕ) (first : List Line) (left : Option (List ℕ)) (r : ReaderSeen) (h : Reads all first left r) → Parts all first left r h
parts all first left r h =
    let a = h.answered in
    let bytes : all ≡ (a.past ++ r.given) ++ a.rest = a.bytes ∙ sym (append_assoc a.past r.given a.rest) in
    let long : length all ≡ length (a.past ++ r.given) + length a.rest = ap length bytes ∙ length-append (a.past ++ r.given) a.rest in
    let count = h.count in
    record { bytes = bytes; count = omega arith }

taken : (all : List ℕ) (first : List Line) (left : Option (List ℕ)) (r : ReaderSeen) (h : Reads all first left r) (n : ℕ)
    → h.answered.past ++ (r.given ++ take n h.answered.rest) ≡ take (r.read + n) all
taken all first left r h n =
    let p = parts all first left r h in
    let front = h.answered.past ++ r.given in
    sym (append_assoc h.answered.past r.given (take n h.answered.rest))
    ∙ sym (take-append-add front h.answered.rest n)
    ∙ ap (λ (t : List ℕ). take (length front + n) t) (sym p.bytes)
    ∙ ap (λ (k : ℕ). take (k + n) all) p.count

dropped : (all : List ℕ) (first : List Line) (left : Option (List ℕ)) (r : ReaderSeen) (h : Reads all first left r) (n : ℕ)
    → drop n h.answered.rest ≡ drop (r.read + n) all
dropped all first left r h n =
    let p = parts all first left r h in
    let front = h.answered.past ++ r.given in
    sym (drop-append-add front h.answered.rest n)
    ∙ ap (λ (t : List ℕ). drop (length front + n) t) (sym p.bytes)
    ∙ ap (λ (k : ℕ). drop (k + n) all) p.count

pub read_breaks : (script mid left : Option (List ℕ)) (first : List Line) (r new : ReaderSeen) → HasRead script mid first r → r.at_end ≡ false
    → IfSome mid (λ all. BreaksOff all left r new) → new.read ≤ most_script_bytes → IsRead script left (Err why.SourceFault) first
read_breaks None mid left first r new s goes_on breaks bound = tt
read_breaks (Some all) mid left first r new s goes_on breaks bound =
    let h = s.some goes_on in
    let b : BreaksOff h.answered.rest left r new = rw h.answered.left_is at breaks in
    let within = b.1.within in
    let read = b.1.read in
    let count = h.count in (
      r.read + b.0,
      omega arith,
      omega arith,
      b.1.others ∙ ap (λ (t : List ℕ). Some t) (dropped all first mid r h b.0),
      sym (answered_whole all first mid left r new h.answered goes_on b) ∙ ap whole_lines (taken all first mid r h b.0),
    )

pub read_exceeds : (script mid left : Option (List ℕ)) (first : List Line) (r : ReaderSeen) → HasRead script mid first r → r.at_end ≡ false
    → IfSome mid (λ all. Exceeds all left r) → IsRead script left (Err why.TooLong) first
read_exceeds None mid left first r s goes_on exceeds = tt
read_exceeds (Some all) mid left first r s goes_on exceeds =
    let h = s.some goes_on in
    let x : Exceeds h.answered.rest left r = rw h.answered.left_is at exceeds in
    let below = x.1 in
    let full = x.3 in
    let count = h.count in
    let past : r.read + (x.0 + 1) ≡ most_script_bytes + 1 = omega arith in (
      omega arith,
      x.2 ∙ ap (λ (t : List ℕ). Some t) (dropped all first mid r h (x.0 + 1) ∙ ap (λ (k : ℕ). drop k all) past),
      sym (answered_before all first mid left r h.answered goes_on x) ∙ ap whole_lines (taken all first mid r h x.0 ∙ ap (λ (k : ℕ). take k all) full),
    )

-- ---- the lines of what was read go on behind the first ones
pub record GoesOn (script left : Option (List ℕ)) (first : List Line) : Type 0 where
  pub others : List Line
  pub lines : IfSome script (λ all. IsReadSoFar all left (first ++ others))
  pub ahead : bytes_in others ≤ most_ahead

-- lines have no more bytes than what they are of
first_longer : (b : ℕ) (lines : List Line) → bytes_in (onto_first b lines) ≤ bytes_in lines + 1
first_longer b [] = omega arith
first_longer b (line ∷ lines) = omega arith

bytes_of_lines : (bytes : List ℕ) → bytes_in (lines_of bytes) ≤ length bytes
bytes_of_lines [] = omega arith
bytes_of_lines (b ∷ bytes) = by (b == 10) (bytes_of_lines bytes) (first_longer b (lines_of bytes))
  where
    by : (t : Bool) → bytes_in (lines_of bytes) ≤ length bytes → bytes_in (onto_first b (lines_of bytes)) ≤ bytes_in (lines_of bytes) + 1
        → bytes_in (if t then record { bytes = []; ended = true } ∷ lines_of bytes else onto_first b (lines_of bytes)) ≤ length (b ∷ bytes)
    by true h k = omega arith
    by false h k = omega arith

some_of_lines : (lines : List Line) → bytes_in (filter (λ (line : Line). line.ended) lines) ≤ bytes_in lines
some_of_lines [] = omega arith
some_of_lines (line ∷ lines) = by line.ended (some_of_lines lines)
  where
    by : (t : Bool) → bytes_in (filter (λ (line : Line). line.ended) lines) ≤ bytes_in lines
        → bytes_in (if t then line ∷ filter (λ (line : Line). line.ended) lines else filter (λ (line : Line). line.ended) lines) ≤ bytes_in (line ∷ lines)
    by true h = omega arith
    by false h = omega arith

-- what stands in no line yet is given already
whole_ahead : (given rest : List ℕ) → length given ≤ most_ahead → bytes_in (whole_lines (given ++ take 0 rest)) ≤ most_ahead
whole_ahead given rest few =
    let some = some_of_lines (lines_of (given ++ take 0 rest)) in
    let lines = bytes_of_lines (given ++ take 0 rest) in
    let long = length-append given (take 0 rest) in
    omega arith

goes_some : (script left : Option (List ℕ)) (first : List Line) (r : ReaderSeen) → r.at_end ≡ false → r.read ≤ most_script_bytes → length r.given ≤ most_ahead → IfSome script (λ all. Reads all first left r) → GoesOn script left first
goes_some None left first r on bound few h = record { others = []; lines = tt; ahead = omega arith }
goes_some (Some all) left first r on bound few h =
    let a = h.answered in
    let count = h.count in
    record {
      others = whole_lines (r.given ++ take 0 a.rest);
      lines = inr (
        r.read + 0,
        omega arith,
        omega arith,
        a.left_is ∙ ap (λ (t : List ℕ). Some t) (dropped all first left r h 0),
        sym (a.adds on (r.given ++ take 0 a.rest)) ∙ ap whole_lines (taken all first left r h 0),
      );
      ahead = whole_ahead r.given a.rest few;
    }

goes_whole : (script left : Option (List ℕ)) (first : List Line) → IfSome script (λ all. ReadsAll all first left) → GoesOn script left first
goes_whole None left first h = record { others = []; lines = tt; ahead = omega arith }
goes_whole (Some all) left first h = record { others = []; lines = inl (append-nil first ∙ h.lines, h.short, h.none); ahead = omega arith }

pub goes_on : (script left : Option (List ℕ)) (first : List Line) (r : ReaderSeen) → r.read ≤ most_script_bytes → length r.given ≤ most_ahead → HasRead script left first r → GoesOn script left first
goes_on script left first r bound few s = elim (cases_Bool r.at_end) [
  | inl e ↦ goes_whole script left first (s.whole e)
  | inr e ↦ goes_some script left first r e bound few (s.some e)
]
