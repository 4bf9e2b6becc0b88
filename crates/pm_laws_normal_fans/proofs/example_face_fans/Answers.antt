use Rattle.pm_laws_normal_fans.proofs.ExampleFaceFans.{face_fans_are_read}
use Rattle.pm_laws_normal_fans.proofs.example_face_fans.Goals as goal

pub returns : goal.returns
returns c = face_fans_are_read
