use Rattle.pm_geom.proofs.Faces.{face_of_facets}
use Rattle.pm_geom.proofs.law_face_of_facets.Goals as goal

pub returns : goal.returns
returns c = face_of_facets
