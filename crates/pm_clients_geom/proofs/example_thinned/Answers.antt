use Rattle.pm_clients_geom.proofs.Examples.{thinned_are_read}
use Rattle.pm_clients_geom.proofs.example_thinned.Goals as goal

pub returns : goal.returns
returns c = thinned_are_read
