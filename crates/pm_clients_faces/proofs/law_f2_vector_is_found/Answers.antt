use Rattle.pm_clients_faces.proofs.RightFaces.{f2_vector_is_found}
use Rattle.pm_clients_faces.proofs.law_f2_vector_is_found.Goals as goal

pub returns : goal.returns
returns c = f2_vector_is_found
