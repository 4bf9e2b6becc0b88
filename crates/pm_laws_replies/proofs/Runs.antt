-- A run answers lines as the law of answers has it.
use Rattle.pm_client.specs.Meanings.{unsaid}
use Rattle.std.proofs.Common.{refl, subst, sym, List, [], ◌∷◌, Bool, true, false, ◌≡◌, Option, Some, None, if◌then◌else◌, inl, inr, map}
use Rattle.std.specs.Prelude.{IfSome}
use Rattle.std.specs.List.{list_all}
use Rattle.pm_client.specs.Starts.{Clients}
use Rattle.pm_command.specs.Commands.{Spoken, blank, command_of}
use Rattle.pm_command.specs.Lines.{Line, is_too_long, text_of}
use Rattle.pm_laws_replies.proofs.AnswersApart.{lines_are_spoken, runs_are_told_apart}
use Rattle.pm_laws_replies.proofs.Labels.{book_labels, text_labels}
use Rattle.pm_laws_replies.specs.Scripts.{AnswersLine, AnswersLines, IsSpoken, ProgramNamesAreOneLine, labels_are_one_line}
use Rattle.pm_laws_replies.specs.Told.{is_one_line}
use Rattle.pm_machine.specs.Machines.{Files, Machine}
use Rattle.pm_rules.specs.declared.rule.Rule.{Rule}
use Rattle.pm_script.specs.Replies.{ReplySeen, refusal_text}
use Rattle.pm_script.specs.declared.refusal.Refusal.TheVariants.{BadCommand, LineTooLong}
use Rattle.pm_standard.proofs.StandardBook.{standard_IsBook}
use Rattle.pm_standard.specs.Book.{standard_rules}
use Rattle.pm_machine.specs.Run.{AnswersTo, Run, Starts, command_at, refusal_of}
use Rattle.pm_laws_replies.specs.Runs.{AreOfABook, RunsAreToldApart}

line_refusal : (line : Line) → is_one_line (refusal_text (refusal_of line)) ≡ true
line_refusal line = by (is_too_long line)
  where
    by : (b : Bool) → is_one_line (refusal_text (if b then LineTooLong else BadCommand)) ≡ true
    by true = refl
    by false = refl

spoken_at : (line : Line) (c : Spoken) → command_at line ≡ Some c → IsSpoken c
spoken_at line c e = by (is_too_long line) e
  where
    by : (b : Bool) → (if b then None else command_of (text_of line)) ≡ Some c → IsSpoken c
    by true e = cc
    by false e = lines_are_spoken (text_of line) c e

line_answer : (book : List Rule) (old new : Machine) (line : Line) (reply : Option ReplySeen) (c : Option Spoken) → command_at line ≡ c → AnswersTo unsaid book old (refusal_of line) c reply new → AnswersLine book old c reply new
line_answer book old new line None None e a = absurd a
line_answer book old new line (Some r) None e a = (refusal_of line, line_refusal line, a.0, a.1)
line_answer book old new line (Some r) (Some c) e a = (spoken_at line c e, a)
line_answer book old new line None (Some blank) e a = a
line_answer book old new line None (Some c) e a = absurd a

run_lines : (book : List Rule) (old new : Machine) (lines : List Line) (replies : List (Option ReplySeen)) → Run unsaid book old lines replies new → AnswersLines book old (map command_at lines) replies new
run_lines book old new [] [] r = r
run_lines book old new [] (s ∷ ss) r = absurd r
run_lines book old new (l ∷ ls) [] r = absurd r
run_lines book old new (l ∷ ls) (s ∷ ss) (mid, a, shows, honest, stand, rest) = (mid, line_answer book old mid l s (command_at l) refl a, run_lines book mid new ls ss rest)

start_names : (clients : Clients) (files : Option Files) (m : Machine) → Starts clients files m → ProgramNamesAreOneLine m
start_names clients files m s = record { each = λ q. subst (λ x. IfSome x (λ o. list_all is_one_line o.programs ≡ true)) (sym (s.none q)) tt }

-- no label of the standard book has an LF, nor has one of a book that was read
book_labels_of : (book : List Rule) → AreOfABook book → labels_are_one_line book ≡ true
book_labels_of book (inl e) = subst (λ rules. labels_are_one_line rules ≡ true) (sym e) (book_labels standard_rules standard_IsBook)
book_labels_of book (inr (kinds, bytes, read)) = text_labels kinds bytes book read

pub runs_told_apart : RunsAreToldApart
runs_told_apart book trace lines clients rivals files papers old new start end rs ss b s t x y e =
    runs_are_told_apart book trace (map command_at lines) old new start end rs ss (book_labels_of book b) (start_names clients files old s) (start_names rivals papers start t)
    (run_lines book old new lines rs x) (run_lines book start end lines ss y) e
