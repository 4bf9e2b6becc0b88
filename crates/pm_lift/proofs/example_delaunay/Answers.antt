use Rattle.pm_lift.proofs.SmallDelaunay.{delaunay_is_read}
use Rattle.pm_lift.proofs.example_delaunay.Goals as goal

pub returns : goal.returns
returns c = delaunay_is_read
