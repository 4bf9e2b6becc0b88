use Rattle.pm_elim.proofs.step.factors_at.Goals as goal
use Rattle.std.proofs.Common.{FitsSigned, rules}
use Rattle.std.proofs.lemmas.Int.{to_z-of_z}
use Rattle.std.specs.Int.{w128}

pub returns : goal.returns
returns c =
    let f : FitsSigned w128 c.get.result = search rules in
    let g : FitsSigned w128 c.get-2.result = search rules in
    rw (to_z-of_z w128 c.get.result f, to_z-of_z w128 c.get-2.result g, c.get.ensures.value, c.get-2.ensures.value) at c.cancelling_factors.ensures.factors
