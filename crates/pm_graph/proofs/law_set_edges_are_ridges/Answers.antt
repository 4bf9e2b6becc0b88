use Rattle.pm_graph.proofs.RightGraphs.{set_edges_are_ridges}
use Rattle.pm_graph.proofs.law_set_edges_are_ridges.Goals as goal

pub returns : goal.returns
returns c = set_edges_are_ridges
