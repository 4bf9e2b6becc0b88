use Rattle.pm_clients_graph.proofs.Found.{dual_graph_is_found}
use Rattle.pm_clients_graph.proofs.law_dual_graph_is_found.Goals as goal

pub returns : goal.returns
returns c = dual_graph_is_found
