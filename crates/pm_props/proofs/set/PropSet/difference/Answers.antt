use Rattle.std.proofs.Common.{refl}
use Rattle.pm_props.specs.Sets.{difference}
use Rattle.pm_props.proofs.Members.{difference_below, difference_most, has-difference}
use Rattle.pm_props.proofs.set.PropSet.difference.Goals as goal

pub invariant_of-result : goal.invariant_of-result
unfolding difference
invariant_of-result c = difference_below c.self.inside.bits c.other.inside.bits c.self.invariant

pub returns-clause-value : goal.returns-clause-value
unfolding difference
returns-clause-value c = rw (c.self.view_is, c.other.view_is) refl

pub returns-clause-members : goal.returns-clause-members
unfolding difference
returns-clause-members c = λ p. rw (← c.self.view_is, ← c.other.view_is) (has-difference c.self.inside.bits c.other.inside.bits p)

pub returns-clause-most : goal.returns-clause-most
unfolding difference
returns-clause-most c = rw (← c.self.view_is) (difference_most c.self.inside.bits c.other.inside.bits c.self.invariant)
