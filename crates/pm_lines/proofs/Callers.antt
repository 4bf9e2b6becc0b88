-- A caller's loop: what the lines that were answered so far are, of all that a source had left.
use Rattle.std.proofs.Common.{◌≡◌, ℕ, Bool, true, false, List, [], ◌∷◌, ◌++◌, take, drop, Option, Some, refl, ap, sym, ◌∙◌, append_assoc, append-nil}
use Rattle.std.proofs.lemmas.List.{take-append-drop}
use Rattle.pm_command.specs.Lines.{Line, lines_of}
use Rattle.pm_lines.proofs.LineLaws.{ended_line, whole_at_break}
use Rattle.pm_lines.specs.Coming.{Answers, BreaksOff, Exceeds, IsOver, ReaderSeen}
use Rattle.pm_lines.specs.Whole.{whole_lines}

-- Of all, the source gave the answered bytes and those that stand in no line yet, and the rest is left.
-- While each answered line was ended by an LF, whatever comes after its bytes adds its own lines.
pub record Answered (all : List ℕ) (answered : List Line) (left : Option (List ℕ)) (r : ReaderSeen) : Type 0 where
  pub past : List ℕ
  pub rest : List ℕ
  pub left_is : left ≡ Some rest
  pub bytes : all ≡ past ++ (r.given ++ rest)
  pub lines : lines_of all ≡ answered ++ lines_of (r.given ++ rest)
  pub adds : r.at_end ≡ false → (after : List ℕ) → whole_lines (past ++ after) ≡ answered ++ whole_lines after

-- before the first line
pub answered_none : (all : List ℕ) (left : Option (List ℕ)) (r : ReaderSeen) → left ≡ Some all → r.given ≡ [] → Answered all [] left r
answered_none all left r left_is given = record {
  past = [];
  rest = all;
  left_is = left_is;
  bytes = ap (λ (t : List ℕ). t ++ all) (sym given);
  lines = ap (λ (t : List ℕ). lines_of (t ++ all)) (sym given);
  adds = λ e after. refl;
}

-- where the source said that nothing is left, the answered lines are all
pub answered_all : (all : List ℕ) (answered : List Line) (left over : Option (List ℕ)) (r : ReaderSeen) (a : Answered all answered left r)
    → IsOver a.rest over r → lines_of all ≡ answered
answered_all all answered left over r a h =
    a.lines ∙ ap (λ (t : List ℕ). answered ++ lines_of t) (ap (λ (t : List ℕ). t ++ a.rest) h.0 ∙ h.1) ∙ append-nil answered

-- where it failed, they are those that an LF ended, of what it gave
pub answered_whole : (all : List ℕ) (answered : List Line) (left broken : Option (List ℕ)) (r new : ReaderSeen) (a : Answered all answered left r)
    → r.at_end ≡ false → (b : BreaksOff a.rest broken r new) → whole_lines (a.past ++ (r.given ++ take b.0 a.rest)) ≡ answered
answered_whole all answered left broken r new a goes_on b =
    a.adds goes_on (r.given ++ take b.0 a.rest) ∙ ap (λ (ls : List Line). answered ++ ls) b.2 ∙ append-nil answered

-- and where it gave a byte too many, of the bytes before that
pub answered_before : (all : List ℕ) (answered : List Line) (left over : Option (List ℕ)) (r : ReaderSeen) (a : Answered all answered left r)
    → r.at_end ≡ false → (b : Exceeds a.rest over r) → whole_lines (a.past ++ (r.given ++ take b.0 a.rest)) ≡ answered
answered_before all answered left over r a goes_on b =
    a.adds goes_on (r.given ++ take b.0 a.rest) ∙ ap (λ (ls : List Line). answered ++ ls) b.4 ∙ append-nil answered

-- one line more, which an LF ended
pub answered_ended : (all : List ℕ) (answered : List Line) (left after : Option (List ℕ)) (r new : ReaderSeen) (a : Answered all answered left r)
    → r.at_end ≡ false → Answers a.rest after r new → new.line.ended ≡ true → Answered all (answered ++ new.line ∷ []) after new
answered_ended all answered left after r new a goes_on h ended =
    let n = h.0 in
    let next = h.2 in
    let given : r.given ++ take n a.rest ≡ new.line.bytes ++ 10 ∷ new.given = next.bytes ended in
    let line_is : new.line ≡ ended_line new.line.bytes = ap (λ (e : Bool). record { bytes = new.line.bytes; ended = e }) ended in
    let past = a.past ++ (new.line.bytes ++ 10 ∷ []) in
    record {
      past = past;
      rest = drop n a.rest;
      left_is = h.1.others;
      bytes =
          a.bytes
          ∙ ap (λ (t : List ℕ). a.past ++ t)
          (ap (λ (t : List ℕ). r.given ++ t) (sym (take-append-drop n a.rest))
          ∙ sym (append_assoc r.given (take n a.rest) (drop n a.rest))
          ∙ ap (λ (t : List ℕ). t ++ drop n a.rest) given
          ∙ append_assoc new.line.bytes (10 ∷ new.given) (drop n a.rest)
          ∙ sym (append_assoc new.line.bytes (10 ∷ []) (new.given ++ drop n a.rest)))
          ∙ sym (append_assoc a.past (new.line.bytes ++ 10 ∷ []) (new.given ++ drop n a.rest));
      lines = a.lines ∙ ap (λ (ls : List Line). answered ++ ls) next.lines ∙ sym (append_assoc answered (new.line ∷ []) (lines_of (new.given ++ drop n a.rest)));
      adds = λ e after.
          ap whole_lines (append_assoc a.past (new.line.bytes ++ 10 ∷ []) after)
          ∙ a.adds goes_on ((new.line.bytes ++ 10 ∷ []) ++ after)
          ∙ ap (λ (ls : List Line). answered ++ ls)
          (ap whole_lines (append_assoc new.line.bytes (10 ∷ []) after) ∙ whole_at_break new.line.bytes after next.clear
          ∙ ap (λ (l : Line). l ∷ whole_lines after) (sym line_is))
          ∙ sym (append_assoc answered (new.line ∷ []) (whole_lines after));
    }

-- one line more, which the end of the script ended: then the answered lines are all
pub answered_last : (all : List ℕ) (answered : List Line) (left after : Option (List ℕ)) (r new : ReaderSeen) (a : Answered all answered left r)
    → Answers a.rest after r new → new.line.ended ≡ false → lines_of all ≡ answered ++ new.line ∷ []
answered_last all answered left after r new a h open_line =
    let nothing = h.2.last open_line in
    a.lines ∙ ap (λ (ls : List Line). answered ++ ls)
    (h.2.lines ∙ ap (λ (t : List ℕ). new.line ∷ lines_of t) (ap (λ (t : List ℕ). t ++ drop h.0 a.rest) nothing.0 ∙ nothing.1))
