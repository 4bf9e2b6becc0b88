use Rattle.pm_clients_faces.proofs.RightFaces.{hasse_diagram_is_found}
use Rattle.pm_clients_faces.proofs.law_hasse_diagram_is_found.Goals as goal

pub returns : goal.returns
returns c = hasse_diagram_is_found
