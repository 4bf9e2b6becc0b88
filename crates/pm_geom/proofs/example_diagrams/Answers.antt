use Rattle.pm_geom.proofs.SmallCounts.{diagrams_are_read}
use Rattle.pm_geom.proofs.example_diagrams.Goals as goal

pub returns : goal.returns
returns c = diagrams_are_read
