use Rattle.std.proofs.Common.{refl}
use Rattle.std.proofs.lemmas.Bool.{eqb-true, eq-eqb}
use Rattle.std.specs.Prelude.{bit_and}
use Rattle.pm_props.specs.Sets.{intersection}
use Rattle.pm_props.proofs.Members.{subset_from_both, both_from_subset}
use Rattle.pm_props.proofs.set.PropSet.is_subset.Goals as goal

pub returns-clause-subset : goal.returns-clause-subset
unfolding intersection
returns-clause-subset c =
    let s = c.self.inside.bits in
    let t = c.other.inside.bits in rw (← c.self.view_is, ← c.other.view_is) (
      (λ h. subset_from_both s t (eqb-true (bit_and s t) s h)),
      (λ h. eq-eqb (bit_and s t) s (both_from_subset s t c.self.invariant h)),
    )

pub returns-clause-value : goal.returns-clause-value
unfolding intersection
returns-clause-value c = rw (c.self.view_is, c.other.view_is) refl
