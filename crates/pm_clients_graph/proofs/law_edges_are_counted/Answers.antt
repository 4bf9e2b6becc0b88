use Rattle.pm_clients_graph.proofs.Found.{edges_are_counted}
use Rattle.pm_clients_graph.proofs.law_edges_are_counted.Goals as goal

pub returns : goal.returns
returns c = edges_are_counted
