use Rattle.pm_clients_graph.proofs.Found.{graph_by_faces}
use Rattle.pm_clients_graph.proofs.law_graph_is_found_by_faces.Goals as goal

pub returns : goal.returns
returns c = graph_by_faces
