use Rattle.pm_laws_things.proofs.ExistingFans.{face_fans_exist}
use Rattle.pm_laws_things.proofs.fans.law_face_fans_exist.Goals as goal

pub returns : goal.returns
returns c = face_fans_exist
