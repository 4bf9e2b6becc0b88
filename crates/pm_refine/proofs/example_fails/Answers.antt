use Rattle.pm_refine.proofs.Examples.{fails_are_read}
use Rattle.pm_refine.proofs.example_fails.Goals as goal

pub returns : goal.returns
returns c = fails_are_read
