use Rattle.pm_clients_faces.proofs.RightFaces.{ranks_are_few}
use Rattle.pm_clients_faces.proofs.law_ranks_are_few.Goals as goal

pub returns : goal.returns
returns c = ranks_are_few
