use Rattle.pm_geom.proofs.SmallRanks.{inclusions_are_read}
use Rattle.pm_geom.proofs.example_inclusions.Goals as goal

pub returns : goal.returns
returns c = inclusions_are_read
