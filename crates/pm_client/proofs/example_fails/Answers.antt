use Rattle.pm_client.proofs.Lost.{fails_are_read}
use Rattle.pm_client.proofs.example_fails.Goals as goal

pub returns : goal.returns
returns c = fails_are_read
