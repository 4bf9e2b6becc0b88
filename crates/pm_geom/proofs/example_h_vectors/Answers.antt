use Rattle.pm_geom.proofs.SmallCounts.{h_vectors_are_read}
use Rattle.pm_geom.proofs.example_h_vectors.Goals as goal

pub returns : goal.returns
returns c = h_vectors_are_read
