use Rattle.std.proofs.Common.{◌∙◌, ap}
use Rattle.std.proofs.lemmas.Bool.{eqb-true, eq-eqb}
use Rattle.pm_props.specs.Sets.{has}
use Rattle.pm_props.proofs.Members.{empty_from_none, has-empty}
use Rattle.pm_props.proofs.set.PropSet.is_empty.Goals as goal

pub returns-clause-none : goal.returns-clause-none
returns-clause-none c =
    let s = c.self.inside.bits in rw (← c.self.view_is) (
      (λ h p. ap (λ n. has n p) (eqb-true s 0 h) ∙ has-empty p),
      (λ h. eq-eqb s 0 (empty_from_none s c.self.invariant h)),
    )
