use Rattle.std.proofs.Common.{ap₂}
use Rattle.std.specs.Prelude.{bit_and}
use Rattle.pm_props.specs.Sets.{intersection}
use Rattle.pm_props.proofs.Members.{intersection_below, has-intersection}
use Rattle.pm_props.proofs.set.PropSet.intersection.Goals as goal

pub invariant_of-result : goal.invariant_of-result
unfolding intersection
invariant_of-result c = intersection_below c.self.inside.bits c.other.inside.bits c.self.invariant

pub returns-clause-value : goal.returns-clause-value
unfolding intersection
returns-clause-value c = ap₂ bit_and c.self.view_is c.other.view_is

pub returns-clause-members : goal.returns-clause-members
unfolding intersection
returns-clause-members c = λ p. rw (← c.self.view_is, ← c.other.view_is) (has-intersection c.self.inside.bits c.other.inside.bits p)
