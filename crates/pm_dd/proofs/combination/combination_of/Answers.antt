use Rattle.pm_dd.proofs.StepFails.{combination_lost}
use Rattle.pm_dd.proofs.combination.combination_of.Goals as goal
use Rattle.pm_dd.specs.Lost.{CombinationIsLost}

pub returns-in-None-clause-fail : goal.returns-in-None-clause-fail
returns-in-None-clause-fail c = c.in-Err.ensures.fail

pub returns-in-None-clause-lost : goal.returns-in-None-clause-lost
returns-in-None-clause-lost c = λ wide. combination_lost c.in-Err.fail (CombinationIsLost c.args.row.now c.args.up.now c.args.down.now) (rw c.in-None.is at c.in_ok-made.ensures.lost)
