-- What the machine finds of an object by the standard book.
use Rattle.std.specs.Prelude.{ℕ, ◌≡◌, IsTrue, Option, Some, false}
use Rattle.std.specs.List.{Contains}
use Rattle.pm_rounds.specs.Chains.{held_names, is_barred_on}
use Rattle.pm_rounds.specs.Events.{Configuration, NoneLeads}
use Rattle.pm_props.specs.declared.kind.RuleId.{RuleId}
use Rattle.pm_object_type.specs.declared.object_type.ObjectType.TheVariants.{Fan}
use Rattle.pm_props.specs.declared.property.PropId.{PropId}
use Rattle.pm_props.specs.Properties.{is_in_use}
use Rattle.pm_props.specs.Sets.{only}
use Rattle.pm_standard.specs.Book.{standard_rules}
use Rattle.pm_rules.specs.Rules.{rule_at}
use Rattle.pm_rules.specs.declared.rule.Rule.{Rule}
use Rattle.pm_laws_complete.specs.Completeness.{HoldsAlone, HoldsNeeds, HoldsObjective, descriptions}

-- no rule of the standard book is barred for the object, or for its program where one is asked, with these clients
abbrev pub BarsNothing : Option ℕ → Configuration → Type 0
BarsNothing sub c = (id : RuleId) (rule : Rule) → rule_at standard_rules id ≡ Some rule
    → is_barred_on c.clients c.object sub id rule ≡ false

-- where a polytope or cone holds one description alone and nothing is barred, a property of its table for which what
-- it needs is held is not refused for want of a chain, nor one of a program of it that has an objective
abbrev pub SomeChainLeads : Type 0
SomeChainLeads = (sub : Option ℕ) (c : Configuration) → ¬ (c.object.of ≡ Fan) → (d : PropId × PropId)
    → Contains descriptions d → HoldsAlone d (held_names sub c.object)
    → HoldsObjective sub (held_names sub c.object)
    → BarsNothing sub c → (p : PropId) → IsTrue (is_in_use sub c.object.of p)
    → HoldsNeeds p (held_names sub c.object) → ¬ (NoneLeads standard_rules sub (only p) c)
