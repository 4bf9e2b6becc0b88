use Rattle.pm_optima.proofs.Examples.{objectives_are_read}
use Rattle.pm_optima.proofs.example_objectives.Goals as goal

pub returns : goal.returns
returns c = objectives_are_read
