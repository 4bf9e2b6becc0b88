use Rattle.pm_laws_things.proofs.FaceRows.{face_described}
use Rattle.pm_laws_things.proofs.fans.law_face_fan_is_described.Goals as goal

pub returns : goal.returns
returns c = face_described
