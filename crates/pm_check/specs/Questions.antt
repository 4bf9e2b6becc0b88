-- What words ask of a printed text, and what is answered.
use Rattle.std.specs.Prelude.{◌≡◌, ℕ, ◌++◌, Bool, true, false, if◌then◌else◌, Option, Some, None, List, [], ◌∷◌, filter, codes, decimal}
use Rattle.std.specs.Option.{option_and_then, option_map}
use Rattle.pm_object_type.specs.declared.object_type.ObjectType.{ObjectType}
use Rattle.pm_props.specs.declared.kind.RuleId.{RuleId}
use Rattle.pm_props.specs.declared.set.PropSet.{PropSet}
use Rattle.pm_props.specs.Properties.{every_property, is_in_use}
use Rattle.pm_props.specs.Sets.{set_of}
use Rattle.pm_rules.specs.declared.rule.Rule.{Rule}
use Rattle.pm_weights.specs.Weights.{cost_text}
use Rattle.pm_weights.specs.declared.Cost.{Cost}
use Rattle.pm_printed.specs.declared.question.Question.{Question}
use Rattle.pm_printed.specs.declared.judge.Verdict.{Verdict}
use Rattle.pm_printed.specs.declared.judge.Verdict.TheVariants as verdict
use Rattle.pm_printed.specs.Judging.{Judges}
use Rattle.pm_printed.specs.Labels.{labelled}
use Rattle.pm_check.specs.Words.{PlanSaid, named}

-- the names in use for an object of the type, or for a linear program of one
abbrev pub names_in_use : ObjectType → Bool → PropSet
names_in_use of program = set_of (filter (is_in_use (if program then Some 0 else None) of) every_property)

-- the rules of these labels; none where the book lacks one
abbrev pub all_labelled : List Rule → List (List ℕ) → Option (List RuleId)
all_labelled book [] = Some []
all_labelled book (label ∷ labels) =
    option_and_then (λ id. option_map (λ ids. id ∷ ids) (all_labelled book labels)) (labelled book label)

-- what is asked: the names in use, the held and the asked ones, and the barred rules
pub record QuestionSeen : Type 0 where
  pub names : PropSet
  pub held : PropSet
  pub asked : PropSet
  pub barred : List RuleId

abbrev pub seen_question : Question → QuestionSeen
seen_question q = record { names = q.names; held = q.held; asked = q.asked; barred = q.barred.items }

abbrev pub question_with : PlanSaid → PropSet → PropSet → List RuleId → QuestionSeen
question_with said held asked barred = record {
  names = names_in_use said.of said.program;
  held = held;
  asked = asked;
  barred = barred;
}

-- The question that the words ask: the names in use by the type, the properties of the held and the asked names, and
-- the rules of the barred labels. There is none exactly where a name is that of no property or the book lacks a
-- label.
abbrev pub question_of : List Rule → PlanSaid → Option QuestionSeen
question_of book said =
    option_and_then (λ held.
    option_and_then (λ asked. option_map (question_with said held asked) (all_labelled book said.barred))
    (named said.asked)) (named said.held)

-- `least W`
abbrev pub least_text : Cost → List ℕ
least_text weight = codes "least " ++ cost_text weight ++ codes "\n"

-- `no chain`
abbrev pub none_text : List ℕ
none_text = codes "no chain\n"

-- `no N`
abbrev pub line_text : ℕ → List ℕ
line_text line = codes "no " ++ decimal line ++ codes "\n"

-- the line that tells a verdict: the weight, that there is no chain, or the number of the first line at fault
abbrev pub verdict_text : Verdict → List ℕ
verdict_text (verdict.Least weight) = least_text weight
verdict_text verdict.NoChain = none_text
verdict_text (verdict.Fault line) = line_text line
verdict_text (verdict.Unread line) = line_text line

-- something is proved
abbrev pub is_yes : Verdict → Bool
is_yes (verdict.Least weight) = true
is_yes verdict.NoChain = true
is_yes (verdict.Fault line) = false
is_yes (verdict.Unread line) = false

-- the line tells the verdict on the text for this question, and it is a yes exactly where that proves something
pub record Tells (book : List Rule) (q : Question) (text line : List ℕ) (yes : Bool) : Type 0 where
  pub told : Verdict
  pub judges : Judges book q text told
  pub says : line ≡ verdict_text told
  pub proves : yes ≡ is_yes told

-- so for the question that the words ask
pub record IsAnswer (book : List Rule) (said : PlanSaid) (text line : List ℕ) (yes : Bool) : Type 0 where
  pub question : Question
  pub asks : question_of book said ≡ Some (seen_question question)
  pub tells : Tells book question text line yes
