use Rattle.pm_laws_normal_fans.proofs.OneFan.{one_face_fan}
use Rattle.pm_laws_normal_fans.proofs.law_one_face_fan.Goals as goal

pub returns : goal.returns
returns c = one_face_fan
