use Rattle.pm_clients_graph.proofs.Found.{neighbours_are_counted}
use Rattle.pm_clients_graph.proofs.law_neighbours_are_counted.Goals as goal

pub returns : goal.returns
returns c = neighbours_are_counted
