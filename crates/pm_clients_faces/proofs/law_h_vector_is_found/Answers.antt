use Rattle.pm_clients_faces.proofs.RightFaces.{h_vector_is_found}
use Rattle.pm_clients_faces.proofs.law_h_vector_is_found.Goals as goal

pub returns : goal.returns
returns c = h_vector_is_found
