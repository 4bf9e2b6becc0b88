use Rattle.pm_vector.proofs.Opposites.{All-opposite, opposite_all}
use Rattle.pm_vector.proofs.combination.write_opposite.Goals as goal
use Rattle.std.proofs.Common.{arith}

pub returns-clause-value : goal.returns-clause-value
returns-clause-value c = opposite_all c.args.v.now c.loop-x.x-index c.loop-x.v (omega arith) (omega arith) c.loop-x.invariant

pub returns-clause-in_range : goal.returns-clause-in_range
returns-clause-in_range c = All-opposite c.args.v.now c.loop-x.x-index c.loop-x.v (omega arith) (omega arith) c.loop-x.invariant c.requires
