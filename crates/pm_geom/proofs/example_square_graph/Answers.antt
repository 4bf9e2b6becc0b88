use Rattle.pm_geom.proofs.SmallGraphs.{square_graph_is_read}
use Rattle.pm_geom.proofs.example_square_graph.Goals as goal

pub returns : goal.returns
returns c = square_graph_is_read
