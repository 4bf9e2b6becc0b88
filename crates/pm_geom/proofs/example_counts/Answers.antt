use Rattle.pm_geom.proofs.SmallCounts.{counts_are_read}
use Rattle.pm_geom.proofs.example_counts.Goals as goal

pub returns : goal.returns
returns c = counts_are_read
