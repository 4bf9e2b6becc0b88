use Rattle.pm_dd.proofs.LostExamples.{losses_are_read}
use Rattle.pm_dd.proofs.example_losses.Goals as goal

pub returns : goal.returns
returns c = losses_are_read
