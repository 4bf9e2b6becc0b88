use Rattle.pm_laws_values.proofs.FaceOrders.{face_numbers_are_one}
use Rattle.pm_laws_values.proofs.law_face_numbers_are_one.Goals as goal

pub returns : goal.returns
returns c = face_numbers_are_one
