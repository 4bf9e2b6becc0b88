use Rattle.pm_client.proofs.Examples.{doubles_are_read}
use Rattle.pm_client.proofs.example_doubles.Goals as goal

pub returns : goal.returns
returns c = doubles_are_read
