use Rattle.pm_optima.proofs.Scales.{scale_of_zero}
use Rattle.pm_optima.proofs.objective.scale.Goals as goal
use Rattle.std.proofs.Common.{arith}

pub returns : goal.returns
returns c = rw c.one.ensures (scale_of_zero c.args.objective.now c.args.row.now c.requires.stands (λ i l. c.loop-i.invariant i (omega arith)))
