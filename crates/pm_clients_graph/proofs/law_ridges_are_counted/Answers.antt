use Rattle.pm_clients_graph.proofs.Found.{ridges_are_counted}
use Rattle.pm_clients_graph.proofs.law_ridges_are_counted.Goals as goal

pub returns : goal.returns
returns c = ridges_are_counted
