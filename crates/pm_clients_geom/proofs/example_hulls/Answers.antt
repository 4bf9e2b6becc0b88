use Rattle.pm_clients_geom.proofs.Examples.{hulls_are_read}
use Rattle.pm_clients_geom.proofs.example_hulls.Goals as goal

pub returns : goal.returns
returns c = hulls_are_read
