-- The replies of a run are such as their commands may have, so that they can be told apart.
use Rattle.pm_client.specs.Meanings.{unsaid}
use Rattle.std.specs.Prelude.{ℕ, ◌≡◌, Bool, true, IfSome, List, [], ◌∷◌, Option, Some, None, map}
use Rattle.std.specs.List.{list_all}
use Rattle.pm_command.specs.Commands.{Spoken, blank, command_of}
use Rattle.pm_command.specs.Grammar.{Speaks}
use Rattle.pm_machine.specs.Machines.{Machine}
use Rattle.pm_machine.specs.Steps.{Step}
use Rattle.pm_books.specs.Grammar.{IsBookText}
use Rattle.pm_props.specs.declared.kind.Kind.{Kind}
use Rattle.pm_rules.specs.Books.{IsBook}
use Rattle.pm_rules.specs.declared.rule.Rule.{Rule}
use Rattle.pm_script.specs.Replies.{ReplySeen, nothing, refusal_text, refused}
use Rattle.pm_script.specs.declared.refusal.Refusal.{Refusal}
use Rattle.pm_machine.specs.Run.{replies_text, text_if}
use Rattle.pm_laws_replies.specs.Told.{AreReplies, is_one_line, value_shown_if}

-- no label of the book has an LF
abbrev pub labels_are_one_line : List Rule → Bool
labels_are_one_line book = list_all (λ rule. is_one_line rule.label) book

-- no name of a linear program of an object has an LF
pub record ProgramNamesAreOneLine (m : Machine) : Type 0 where
  pub each : (q : List ℕ) → IfSome (m.object q) (λ o. list_all is_one_line o.programs ≡ true)

-- some text speaks the command
abbrev pub IsSpoken : Spoken → Type 0
IsSpoken command = (text : List ℕ) × Speaks text command

-- From the machine old the reply to a line may be this one, and it goes on as new. The line speaks this command, or
-- none (None), and then it is refused in one line and changes nothing.
abbrev pub AnswersLine : List Rule → Machine → Option Spoken → Option ReplySeen → Machine → Type 0
AnswersLine book old (Some command) (Some reply) new = IsSpoken command × Step unsaid book old command reply new
AnswersLine book old (Some blank) None new = new ≡ old
AnswersLine book old (Some command) None new = ⊥
AnswersLine book old None (Some reply) new = (why : Refusal) × (is_one_line (refusal_text why) ≡ true)
    × (reply ≡ refused why nothing) × (new ≡ old)
AnswersLine book old None None new = ⊥

-- it answers so to the lines, one after another
abbrev pub AnswersLines : List Rule → Machine → List (Option Spoken) → List (Option ReplySeen) → Machine → Type 0
AnswersLines book old [] [] new = new ≡ old
AnswersLines book old (line ∷ lines) (reply ∷ replies) new = (mid : Machine)
    × AnswersLine book old line reply mid × AnswersLines book mid lines replies new
AnswersLines book old [] (reply ∷ replies) new = ⊥
AnswersLines book old (line ∷ lines) [] new = ⊥

-- By a book and from a machine that have no LF in a name, the replies to lines are such as their commands may have.
abbrev pub AnswersAreReplies : Type 0
AnswersAreReplies = (book : List Rule) (old new : Machine) (lines : List (Option Spoken))
    (replies : List (Option ReplySeen)) → labels_are_one_line book ≡ true → ProgramNamesAreOneLine old
    → AnswersLines book old lines replies new → AreReplies book lines replies

-- Of two runs over the same lines by one book, from machines that have no LF in a name, that have one text taken
-- together, the replies have the same texts and show the same values, line by line.
abbrev pub AnswersAreToldApart : Type 0
AnswersAreToldApart = (book : List Rule) (trace : Bool) (lines : List (Option Spoken)) (old new start end : Machine)
    (replies others : List (Option ReplySeen)) → labels_are_one_line book ≡ true → ProgramNamesAreOneLine old
    → ProgramNamesAreOneLine start → AnswersLines book old lines replies new
    → AnswersLines book start lines others end → replies_text trace replies ≡ replies_text trace others
    → (map (text_if trace) replies ≡ map (text_if trace) others)
    × (map value_shown_if replies ≡ map value_shown_if others)

-- no label of a book has an LF
abbrev pub BookLabelsAreOneLine : Type 0
BookLabelsAreOneLine = (book : List Rule) → IsBook book → labels_are_one_line book ≡ true

-- nor has one of rules that a text spells
abbrev pub BookTextLabelsAreOneLine : Type 0
BookTextLabelsAreOneLine = (kinds : List Kind) (text : List ℕ) (book : List Rule) → IsBookText kinds text book
    → labels_are_one_line book ≡ true

-- what a line is read as, it speaks
abbrev pub LinesAreSpoken : Type 0
LinesAreSpoken = (text : List ℕ) (command : Spoken) → command_of text ≡ Some command → IsSpoken command
