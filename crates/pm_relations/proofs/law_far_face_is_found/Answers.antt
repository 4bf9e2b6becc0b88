use Rattle.pm_relations.proofs.FirstEntries.{far_face_is_found}
use Rattle.pm_relations.proofs.law_far_face_is_found.Goals as goal

pub returns : goal.returns
returns c = far_face_is_found
