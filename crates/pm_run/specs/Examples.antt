-- Which lines a run read, how a line is refused, and which book a run goes by, worked by hand: what holds, and what
-- does not.
-- 10 is LF, 110 and 111 are letters.
use Rattle.std.specs.Prelude.{ℕ, ◌≡◌, ◌++◌, Bool, true, false, List, [], ◌∷◌, Option, Some, None, Ok, Err}
use Rattle.pm_client.specs.Starts.{Clients}
use Rattle.pm_machine.specs.Machines.{Machine}
use Rattle.pm_standard.specs.Table.{standard_kinds_list}
use Rattle.pm_props.specs.declared.kind.Kind.{Kind}
use Rattle.pm_standard.specs.Book.{standard_rules}
use Rattle.pm_rules.specs.declared.rule.Rule.{Rule}
use Rattle.pm_command.specs.Lines.{Line, is_too_long}
use Rattle.pm_script.specs.Replies.{nothing, refused}
use Rattle.pm_script.specs.declared.refusal.Refusal.{Refusal}
use Rattle.pm_script.specs.declared.refusal.Refusal.TheVariants.{BadCommand, LineTooLong}
use Rattle.pm_run.specs.Chosen.{IsBook, IsRefusedBook, has_standard_name, kinds_of}
use Rattle.pm_run.specs.Ends.{IsRead}
use Rattle.pm_client.specs.Meanings.{unsaid}
use Rattle.pm_machine.specs.Run.{AnswersTo, refusal_of}
use Rattle.pm_run.specs.declared.status.RunFail.TheVariants.{SinkFault, SourceFault, TooLong}

abbrev pub ended_line : List ℕ → Line
ended_line bytes = record { bytes = bytes; ended = true }

abbrev pub last_line : List ℕ → Line
last_line bytes = record { bytes = bytes; ended = false }

-- a script of two lines, the last of which no LF ends
abbrev pub two_lines : List ℕ
two_lines = 110 ∷ 10 ∷ 111 ∷ []

abbrev pub both : List Line
both = ended_line (110 ∷ []) ∷ last_line (111 ∷ []) ∷ []

abbrev pub first_line : List Line
first_line = ended_line (110 ∷ []) ∷ []

pub record LinesAreRead : Type 0 where
  -- a script that was read to its end has all its lines, and nothing is left of it
  pub whole : (some_refused : Bool) → IsRead (Some two_lines) (Some []) (Ok some_refused) both
  pub not_whole : (some_refused : Bool)
      → ¬ (IsRead (Some two_lines) (Some (111 ∷ [])) (Ok some_refused) both)
  -- where the source failed, a line that no LF ended is not read, and each that one ended is
  pub broken : IsRead (Some two_lines) (Some []) (Err SourceFault) first_line
  pub broken_before : IsRead (Some two_lines) (Some (111 ∷ [])) (Err SourceFault) first_line
  pub not_last : ¬ (IsRead (Some two_lines) (Some []) (Err SourceFault) both)
  pub not_fewer : ¬ (IsRead (Some two_lines) (Some []) (Err SourceFault) [])
  -- where the sink failed, the lines are those of what was read, answered or not
  pub untaken : IsRead (Some two_lines) (Some []) (Err SinkFault) both
  pub untaken_before : IsRead (Some two_lines) (Some (111 ∷ [])) (Err SinkFault) first_line
  -- a short script is not too long
  pub short : (left : Option (List ℕ)) (lines : List Line)
      → ¬ (IsRead (Some two_lines) left (Err TooLong) lines)

pub record LinesAreRefused : Type 0 where
  pub long : (line : Line) → is_too_long line ≡ true → refusal_of line ≡ LineTooLong
  pub short : refusal_of (ended_line (110 ∷ [])) ≡ BadCommand
  -- for this reason, and nothing is changed
  pub same : (book : List Rule) (old : Machine) (why : Refusal)
      → AnswersTo unsaid book old why None (Some (refused why nothing)) old
  pub not_other : (book : List Rule) (old new : Machine)
      → ¬ (AnswersTo unsaid book old LineTooLong None (Some (refused BadCommand nothing)) new)
  pub not_silent : (book : List Rule) (old new : Machine) (why : Refusal)
      → ¬ (AnswersTo unsaid book old why None None new)

pub record BooksAreChosen : Type 0 where
  pub standard : (clients : Clients) (files : Option (List (List ℕ × List ℕ)))
      → IsBook None clients files standard_rules
  pub not_empty : (clients : Clients) (files : Option (List (List ℕ × List ℕ)))
      → ¬ (IsBook None clients files [])
  -- a file that is not there is no book
  pub absent : (name : List ℕ) (clients : Clients) → IsRefusedBook name clients []
  pub not_absent : (name : List ℕ) (clients : Clients) (book : List Rule)
      → ¬ (IsBook (Some name) clients (Some []) book)
  -- a client adds its kind where no standard kind has its name
  pub adds : (kind : Kind) (starts : ℕ) → has_standard_name kind ≡ false
      → kinds_of ((kind, starts) ∷ []) ≡ standard_kinds_list ++ kind ∷ []
  pub adds_none : (kind : Kind) (starts : ℕ) → has_standard_name kind ≡ true
      → kinds_of ((kind, starts) ∷ []) ≡ standard_kinds_list
