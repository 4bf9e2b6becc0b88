use Rattle.pm_geom.proofs.SmallRanks.{ranks_are_read}
use Rattle.pm_geom.proofs.example_ranks.Goals as goal

pub returns : goal.returns
returns c = ranks_are_read
