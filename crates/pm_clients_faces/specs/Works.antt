-- The works of the clients that find faces, and count them.
use Rattle.pm_client.specs.declared.ClientFail.{ClientFail}
use Rattle.pm_client.specs.declared.ClientFail.TheVariants.{Memory}
use Rattle.pm_clients_faces.specs.Faces.{FailsForMany, HasFewFaces}
use Rattle.pm_clients_faces.specs.declared.client.FacesWork.{FacesWork}
use Rattle.pm_clients_faces.specs.declared.client.FacesWork.TheVariants as work
use Rattle.pm_object.specs.Reading.{ViewSeen}
use Rattle.pm_standard.specs.declared.standard.StandardClient.{StandardClient}
use Rattle.pm_standard.specs.declared.standard.StandardClient.TheVariants as client
use Rattle.std.specs.Prelude.{◌≡◌}

-- the standard client of each work
abbrev pub faces_client : FacesWork → StandardClient
faces_client work.Faces = client.Faces
faces_client work.FVector = client.FVector
faces_client work.F2Vector = client.F2Vector
faces_client work.HVector = client.HVector

-- where `faces` answers, there are few enough faces
abbrev pub FacesStay : FacesWork → ViewSeen → Type 0
FacesStay work.Faces v = HasFewFaces v
FacesStay w v = Unit {0}

-- `faces` fails where there are too many, the others for want of memory alone
abbrev pub FacesFail : FacesWork → ViewSeen → ClientFail → Type 0
FacesFail work.Faces v e = FailsForMany v e
FacesFail w v e = e ≡ Memory
