use Rattle.pm_refine.proofs.Examples.{steps_are_read}
use Rattle.pm_refine.proofs.example_steps.Goals as goal

pub returns : goal.returns
returns c = steps_are_read
