use Rattle.pm_clients_geom.proofs.RedundancyExamples.{points_are_read}
use Rattle.pm_clients_geom.proofs.example_points.Goals as goal

pub returns : goal.returns
returns c = points_are_read
