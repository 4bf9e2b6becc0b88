use Rattle.pm_clients_faces.proofs.Examples.{few_faces_are_read}
use Rattle.pm_clients_faces.proofs.example_few_faces.Goals as goal

pub returns : goal.returns
returns c = few_faces_are_read
