use Rattle.pm_clients_lp.proofs.Examples.{duals_are_read}
use Rattle.pm_clients_lp.proofs.example_duals.Goals as goal

pub returns : goal.returns
returns c = duals_are_read
