use Rattle.pm_graph.proofs.Examples.{edges_are_read}
use Rattle.pm_graph.proofs.example_edges.Goals as goal

pub returns : goal.returns
returns c = edges_are_read
