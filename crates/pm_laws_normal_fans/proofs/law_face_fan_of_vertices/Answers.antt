use Rattle.pm_laws_normal_fans.proofs.FacetFans.{face_fan_of_vertices}
use Rattle.pm_laws_normal_fans.proofs.law_face_fan_of_vertices.Goals as goal

pub returns : goal.returns
returns c = face_fan_of_vertices
