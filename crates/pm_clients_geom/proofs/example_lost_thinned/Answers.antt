use Rattle.pm_clients_geom.proofs.LostThinnedExamples.{lost_thinned_are_read}
use Rattle.pm_clients_geom.proofs.example_lost_thinned.Goals as goal

pub returns : goal.returns
returns c = lost_thinned_are_read
