use Rattle.pm_lattice.proofs.Points.{point_is_read}
use Rattle.pm_lattice.proofs.example_point.Goals as goal

pub returns : goal.returns
returns c = point_is_read
