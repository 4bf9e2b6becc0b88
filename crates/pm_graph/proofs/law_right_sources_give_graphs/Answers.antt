use Rattle.pm_graph.proofs.RightSources.{right_sources}
use Rattle.pm_graph.proofs.law_right_sources_give_graphs.Goals as goal

pub returns : goal.returns
returns c = right_sources
