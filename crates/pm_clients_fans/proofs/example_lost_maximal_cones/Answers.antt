use Rattle.pm_clients_fans.proofs.LostMaximalCones.{lost_maximal_cones_are_read}
use Rattle.pm_clients_fans.proofs.example_lost_maximal_cones.Goals as goal

pub returns : goal.returns
returns c = lost_maximal_cones_are_read
