use Rattle.pm_geom.proofs.SmallThings.{line_is_read}
use Rattle.pm_geom.proofs.example_line.Goals as goal

pub returns : goal.returns
returns c = line_is_read
