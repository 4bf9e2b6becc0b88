-- Rules that find one of given names.
use Rattle.std.specs.Prelude.{◌≡◌, false, IsTrue, List}
use Rattle.pm_props.specs.declared.property.PropId.{PropId}
use Rattle.pm_props.specs.declared.set.PropSet.{PropSet}
use Rattle.pm_props.specs.declared.kind.RuleId.{RuleId}
use Rattle.pm_props.specs.Sets.{has}
use Rattle.pm_rules.specs.declared.rule.Rule.{Rule}
use Rattle.pm_rules.specs.Rules.{IsInUse, is_barred}
use Rattle.pm_rules.specs.Chains.{Needed}

-- in use, not barred, and some target of it is in the set
pub record FindsOne (names : PropSet) (barred : List RuleId) (set : PropSet) (id : RuleId) (rule : Rule)
    : Type 0 where
  pub in_use : IsInUse names rule
  pub allowed : is_barred barred id ≡ false
  pub target : (p : PropId) × IsTrue (has rule.kind.targets p) × IsTrue (has set p)

-- each name of the set is needed
abbrev pub AllNeeded : List Rule → PropSet → List RuleId → PropSet → PropSet → Type 0
AllNeeded book names barred asked set = (p : PropId) → IsTrue (has set p) → Needed book names barred asked p
