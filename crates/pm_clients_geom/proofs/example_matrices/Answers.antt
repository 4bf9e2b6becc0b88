use Rattle.pm_clients_geom.proofs.Examples.{matrices_are_read}
use Rattle.pm_clients_geom.proofs.example_matrices.Goals as goal

pub returns : goal.returns
returns c = matrices_are_read
