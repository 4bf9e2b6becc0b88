-- What a yes on a printed plan means, for all chains of rules.
use Rattle.std.specs.Prelude.{◌≡◌, ℕ, ◌⊎◌, Bool, true, Option, Some, None, IfSome, List, ◌++◌, map}
use Rattle.pm_props.specs.declared.kind.RuleId.{RuleId}
use Rattle.pm_rules.specs.declared.rule.Rule.{Rule}
use Rattle.pm_rules.specs.declared.table.TableRow.{TableRow}
use Rattle.pm_rules.specs.Books.{IsBook}
use Rattle.pm_rules.specs.Chains.{HasNoChain, IsLeast, weigh}
use Rattle.pm_weights.specs.declared.Cost.{Cost}
use Rattle.pm_store.specs.Outside.{GainsTold}
use Rattle.pm_printed.specs.Judging.{ProvesNone, ProvesPlan}
use Rattle.pm_printed.specs.Printed.{IsPlanText, IsRefusalText}
use Rattle.pm_printed.specs.declared.question.Question.{Question}
use Rattle.pm_check.specs.Words.{Asked, PlanSaid}
use Rattle.pm_check.specs.Words.Asked.{of_book, of_plan}
use Rattle.pm_check.specs.Books.{IsBookNamed}
use Rattle.pm_check.specs.Questions.{QuestionSeen, Tells, least_text, none_text, question_of}
use Rattle.pm_check.specs.Ends.{World}

-- a chain leads from the held names to the asked ones, no other that does weighs less, and the line tells its weight
pub record TellsLeast (book : List Rule) (q : QuestionSeen) (line : List ℕ) : Type 0 where
  pub chain : List RuleId
  pub least : IsLeast book q.names q.barred q.held q.asked chain
  pub says : line ≡ least_text (weigh book chain)

-- no chain leads there that avoids the barred rules and those that the text tells as barred, and the line says so
pub record TellsNone (book : List Rule) (q : QuestionSeen) (text line : List ℕ) : Type 0 where
  pub told : List (RuleId × List ℕ)
  pub rows : List TableRow
  pub printed : IsRefusalText book text told rows
  pub none : HasNoChain book q.names (q.barred ++ map (λ x. x.0) told) q.held q.asked
  pub says : line ≡ none_text

-- one of these two
abbrev pub TellsTrue : List Rule → QuestionSeen → List ℕ → List ℕ → Type 0
TellsTrue book q text line = TellsLeast book q line ⊎ TellsNone book q text line

-- so it is by the book that the words name, for the question that they ask, of the bytes that the source had
pub record PlanIsTrue (said : PlanSaid) (given : Option (List ℕ)) (files : Option (List (List ℕ × List ℕ)))
    (line : List ℕ) : Type 0 where
  pub bytes : List ℕ
  pub read : IfSome given (λ all. bytes ≡ all)
  pub rules : List Rule
  pub by : IsBookNamed said.book files rules
  pub question : QuestionSeen
  pub asks : question_of rules said ≡ Some question
  pub tells : TellsTrue rules question bytes line

-- where a plan was checked, the sink took such a line
abbrev pub Proved : Option Asked → World → Type 0
Proved None w = ⊥
Proved (Some (of_book name)) w = Unit {0}
Proved (Some (of_plan said)) w = (line : List ℕ) × GainsTold w.had w.has line
    × PlanIsTrue said w.given w.files line

-- ---- laws
-- on the printed text of a plan that proves itself least, the line tells its weight, and it is a yes
abbrev pub LeastPlansAreTold : Type 0
LeastPlansAreTold = (book : List Rule) (q : Question) (weight : Cost) (chain : List RuleId)
    (rows : List TableRow) (text line : List ℕ) → IsBook book
    → IsPlanText book text weight chain rows → ProvesPlan book q weight chain rows → (yes : Bool)
    → Tells book q text line yes → (line ≡ least_text weight) × (yes ≡ true)

-- on that of a refusal that proves that there is none, it says so, and it is a yes
abbrev pub RefusalsAreTold : Type 0
RefusalsAreTold = (book : List Rule) (q : Question) (told : List (RuleId × List ℕ)) (rows : List TableRow)
    (text line : List ℕ) → IsBook book
    → IsRefusalText book text told rows → ProvesNone book q told rows → (yes : Bool)
    → Tells book q text line yes → (line ≡ none_text) × (yes ≡ true)
