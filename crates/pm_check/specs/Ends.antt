-- How a run of the program ended, and what the sink took until then.
use Rattle.std.specs.Prelude.{◌≡◌, ℕ, ◌<◌, ◌≤◌, ◌⊎◌, Bool, true, false, Option, Some, None, IfSome, List, length}
use Rattle.pm_limits.specs.Limits.{most_file_bytes, most_printed_bytes}
use Rattle.pm_rules.specs.declared.rule.Rule.{Rule}
use Rattle.pm_store.specs.Files.{file_of}
use Rattle.pm_store.specs.Outside.{GainsTold, GainsPart, Rose, StaysTold}
use Rattle.pm_check.specs.Words.{Asked, PlanSaid}
use Rattle.pm_check.specs.Words.Asked.{of_plan, of_book}
use Rattle.pm_check.specs.Books.{IsBookAnswer, IsBookNamed, IsNoFile, IsRefusedFile}
use Rattle.pm_check.specs.Questions.{IsAnswer, question_of}
use Rattle.pm_check.specs.declared.status.NoAnswer.{NoAnswer}
use Rattle.pm_check.specs.declared.status.NoAnswer.TheVariants as why
use Rattle.pm_check.specs.declared.status.Status.{Status}
use Rattle.pm_check.specs.declared.status.Status.TheVariants.{Right, Wrong, BadWords, SourceFault, SinkFault, OutOfMemory, BadBook}

-- the number of a status
abbrev pub number_of : Status → ℕ
number_of Right = 0
number_of Wrong = 1
number_of BadWords = 2
number_of SourceFault = 3
number_of SinkFault = 4
number_of OutOfMemory = 5
number_of BadBook = 7

abbrev pub status_of : NoAnswer → Status
status_of why.BadWords = BadWords
status_of why.SourceFault = SourceFault
status_of why.Memory = OutOfMemory
status_of why.BadBook = BadBook

-- What was told: what the source had, what the sink took before and has taken after, and the files of the store.
pub record World : Type 0 where
  pub given : Option (List ℕ)
  pub had : Option (List ℕ)
  pub has : Option (List ℕ)
  pub files : Option (List (List ℕ × List ℕ))

-- ---- answers
-- the line is the answer on the bytes that the source had, by the book that the words name
pub record AnswersPlan (said : PlanSaid) (given : Option (List ℕ)) (files : Option (List (List ℕ × List ℕ)))
    (line : List ℕ) (right : Bool) : Type 0 where
  pub bytes : List ℕ
  pub read : IfSome given (λ all. bytes ≡ all)
  pub short : length bytes ≤ most_printed_bytes
  pub rules : List Rule
  pub by : IsBookNamed said.book files rules
  pub answer : IsAnswer rules said bytes line right

-- the line is the answer on the file of this name
pub record AnswersBook (name : List ℕ) (files : Option (List (List ℕ × List ℕ))) (line : List ℕ)
    (right : Bool) : Type 0 where
  pub bytes : List ℕ
  pub there : IfSome files (λ all. file_of all name ≡ Some bytes)
  pub short : length bytes ≤ most_file_bytes
  pub answer : IsBookAnswer bytes line right

abbrev pub Answers : Option Asked → Option (List ℕ) → Option (List (List ℕ × List ℕ)) → List ℕ → Bool
    → Type 0
Answers None given files line right = ⊥
Answers (Some (of_plan said)) given files line right = AnswersPlan said given files line right
Answers (Some (of_book name)) given files line right = AnswersBook name files line right

-- the sink took the line, and the status tells whether it is a yes; or it failed in the line
abbrev pub Told : Option (List ℕ) → Option (List ℕ) → List ℕ → Bool → Status → Type 0
Told had has line right Right = (right ≡ true) × GainsTold had has line
Told had has line right Wrong = (right ≡ false) × GainsTold had has line
Told had has line right SinkFault = GainsPart had has line
Told had has line right BadWords = ⊥
Told had has line right SourceFault = ⊥
Told had has line right OutOfMemory = ⊥
Told had has line right BadBook = ⊥

-- ---- why there is none
-- the words are none of the program, or ask no question by the book that they name
abbrev pub IsBadAsked : Option Asked → Option (List (List ℕ × List ℕ)) → Type 0
IsBadAsked None files = Unit {0}
IsBadAsked (Some (of_plan said)) files = (rules : List Rule) × IsBookNamed said.book files rules
    × (question_of rules said ≡ None)
IsBadAsked (Some (of_book name)) files = ⊥

abbrev pub IsRefusedBook : Option (List ℕ) → List (List ℕ × List ℕ) → Type 0
IsRefusedBook None files = ⊥
IsRefusedBook (Some name) files = IsRefusedFile (file_of files name)

-- the named book is absent or refused, or the file that is to be checked is absent or too long
abbrev pub IsBadBook : Option Asked → List (List ℕ × List ℕ) → Type 0
IsBadBook None files = ⊥
IsBadBook (Some (of_plan said)) files = IsRefusedBook said.book files
IsBadBook (Some (of_book name)) files = IsNoFile (file_of files name)

-- ---- ends
-- So a run ended: the sink took the line that answers what the words ask of what was given, and the status tells
-- whether it is a yes; or the sink failed in that line; or there is no answer, and the sink took nothing.
abbrev pub Ended : Option Asked → Status → World → Type 0
Ended asked Right w = (line : List ℕ) × Answers asked w.given w.files line true × GainsTold w.had w.has line
Ended asked Wrong w = (line : List ℕ) × Answers asked w.given w.files line false × GainsTold w.had w.has line
Ended asked SinkFault w = (line : List ℕ) × (right : Bool) × Answers asked w.given w.files line right
    × GainsPart w.had w.has line
Ended asked BadWords w = IsBadAsked asked w.files × StaysTold w.had w.has
Ended asked SourceFault w = StaysTold w.had w.has
Ended asked OutOfMemory w = StaysTold w.had w.has
Ended asked BadBook w = StaysTold w.had w.has

-- the source failed, or it is too long
abbrev pub IsSourceFault : ℕ → ℕ → Option (List ℕ) → Type 0
IsSourceFault old new given = Rose old new ⊎ IfSome given (λ all. most_printed_bytes < length all)

-- the store failed, or the book that is asked for is bad
abbrev pub IsBookFault : ℕ → ℕ → Option Asked → Option (List (List ℕ × List ℕ)) → Type 0
IsBookFault old new asked files = Rose old new ⊎ IfSome files (IsBadBook asked)
