use Rattle.pm_geom.proofs.SmallThings.{empty_is_read}
use Rattle.pm_geom.proofs.example_empty.Goals as goal

pub returns : goal.returns
returns c = empty_is_read
