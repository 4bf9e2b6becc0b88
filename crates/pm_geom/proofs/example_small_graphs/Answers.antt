use Rattle.pm_geom.proofs.SmallGraphs.{small_graphs_are_read}
use Rattle.pm_geom.proofs.example_small_graphs.Goals as goal

pub returns : goal.returns
returns c = small_graphs_are_read
