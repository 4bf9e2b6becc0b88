-- What `explain` prints, as the checker of printed plans reads it.
use Rattle.std.specs.Prelude.{◌≡◌, ℕ, Bool, Option, List, [], map}
use Rattle.pm_client.specs.Starts.{Clients}
use Rattle.pm_machine.specs.Steps.{Explains}
use Rattle.pm_object.specs.Formed.{IsFormed}
use Rattle.pm_object.specs.State.{State}
use Rattle.pm_props.specs.declared.kind.RuleId.{RuleId}
use Rattle.pm_props.specs.declared.set.PropSet.{PropSet}
use Rattle.pm_printed.specs.Judging.{Judges}
use Rattle.pm_printed.specs.Printed.{IsPlanText, IsRefusalText}
use Rattle.pm_printed.specs.declared.judge.Verdict.{Verdict}
use Rattle.pm_printed.specs.declared.judge.Verdict.TheVariants as verdict
use Rattle.pm_printed.specs.declared.question.Question.{Question}
use Rattle.pm_rounds.specs.Chains.{AreBarred, held_names, table}
use Rattle.pm_rules.specs.Books.{IsBook}
use Rattle.pm_rules.specs.declared.rule.Rule.{Rule}
use Rattle.pm_rules.specs.declared.table.TableRow.{TableRow}
use Rattle.pm_script.specs.Replies.{NamesSeen, bar_text, explained, planned, refused, reply_text}
use Rattle.pm_script.specs.declared.names.Bar.{Bar}
use Rattle.pm_script.specs.declared.refusal.Refusal.TheVariants.{NoChain}
use Rattle.pm_weights.specs.declared.Cost.{Cost}

-- the names in use, those held and those asked are those of the object, or of one of its linear programs
pub record Asks (o : State) (sub : Option ℕ) (asked : PropSet) (q : Question) : Type 0 where
  pub names : q.names ≡ table sub o.of
  pub held : q.held ≡ held_names sub o
  pub wanted : q.asked ≡ asked

-- the barred rules with their reasons as text
abbrev pub told_text : List (RuleId × Bar) → List (RuleId × List ℕ)
told_text told = map (λ x. (x.0, bar_text x.1)) told

-- ---- plans
-- the reply that tells a chain is printed of its weight, its rules and its table
abbrev pub PlansArePrinted : Type 0
PlansArePrinted = (book : List Rule) (clients : Clients) (o : State) (sub : Option ℕ) (asked : PropSet)
    (chain : List RuleId) (weight : Cost) (rows : List TableRow) (names : NamesSeen) (trace : Bool)
    → IsBook book
    → Explains book clients o sub asked (explained chain weight rows names)
    → IsPlanText book (reply_text trace (explained chain weight rows names)) weight chain rows

-- the verdict on it is that it is least, where the question is the object's and has its barred rules
abbrev pub PlansAreFoundLeast : Type 0
PlansAreFoundLeast = (book : List Rule) (clients : Clients) (o : State) (sub : Option ℕ) (asked : PropSet)
    (chain : List RuleId) (weight : Cost) (rows : List TableRow) (names : NamesSeen) (trace : Bool)
    → IsBook book
    → Explains book clients o sub asked (explained chain weight rows names) → (q : Question)
    → Asks o sub asked q → AreBarred book clients o sub q.barred.items → (v : Verdict)
    → Judges book q (reply_text trace (explained chain weight rows names)) v → v ≡ verdict.Least weight

-- ---- refusals, for objects whose values and exclusions are as those of every object are
-- the reply that tells that no chain leads there is printed of the barred rules and of the table
abbrev pub RefusalsArePrinted : Type 0
RefusalsArePrinted = (book : List Rule) (clients : Clients) (o : State) (sub : Option ℕ) (asked : PropSet)
    (told : List (RuleId × Bar)) (rows : List TableRow) (names : NamesSeen) (trace : Bool) → IsBook book
    → IsFormed o → Explains book clients o sub asked (refused NoChain (planned told rows names))
    → IsRefusalText book (reply_text trace (refused NoChain (planned told rows names))) (told_text told) rows

-- the verdict on it is that there is none, where the question is the object's: the text itself tells which rules are
-- barred
abbrev pub RefusalsAreFound : Type 0
RefusalsAreFound = (book : List Rule) (clients : Clients) (o : State) (sub : Option ℕ) (asked : PropSet)
    (told : List (RuleId × Bar)) (rows : List TableRow) (names : NamesSeen) (trace : Bool) → IsBook book
    → IsFormed o → Explains book clients o sub asked (refused NoChain (planned told rows names))
    → (q : Question) → Asks o sub asked q → q.barred.items ≡ [] → (v : Verdict)
    → Judges book q (reply_text trace (refused NoChain (planned told rows names))) v → v ≡ verdict.NoChain
