use Rattle.std.proofs.Common.{ap₂}
use Rattle.std.specs.Prelude.{bit_or}
use Rattle.pm_props.specs.Sets.{union}
use Rattle.pm_props.proofs.Members.{union_below, has-union}
use Rattle.pm_props.proofs.set.PropSet.union.Goals as goal

pub invariant_of-result : goal.invariant_of-result
unfolding union
invariant_of-result c = union_below c.self.inside.bits c.other.inside.bits c.self.invariant c.other.invariant

pub returns-clause-value : goal.returns-clause-value
unfolding union
returns-clause-value c = ap₂ bit_or c.self.view_is c.other.view_is

pub returns-clause-members : goal.returns-clause-members
unfolding union
returns-clause-members c = λ p. rw (← c.self.view_is, ← c.other.view_is) (has-union c.self.inside.bits c.other.inside.bits p)
