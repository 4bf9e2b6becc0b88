use Rattle.pm_geom.proofs.SmallThings.{half_line_is_read}
use Rattle.pm_geom.proofs.example_half_line.Goals as goal

pub returns : goal.returns
returns c = half_line_is_read
