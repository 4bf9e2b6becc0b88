use Rattle.pm_graph.proofs.RightGraphs.{index_edges_are_edges}
use Rattle.pm_graph.proofs.law_index_edges_are_edges.Goals as goal

pub returns : goal.returns
returns c = index_edges_are_edges
