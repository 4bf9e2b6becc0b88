use Rattle.pm_clients_graph.proofs.Found.{diameter_is_found}
use Rattle.pm_clients_graph.proofs.law_diameter_is_found.Goals as goal

pub returns : goal.returns
returns c = diameter_is_found
