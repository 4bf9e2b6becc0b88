use Rattle.pm_beneath.proofs.LostExamples.{place_losses_are_read}
use Rattle.pm_beneath.proofs.example_losses.Goals as goal

pub returns : goal.returns
returns c = place_losses_are_read
