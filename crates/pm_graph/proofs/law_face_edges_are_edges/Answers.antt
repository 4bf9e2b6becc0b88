use Rattle.pm_graph.proofs.RightFaces.{face_edges_are_edges}
use Rattle.pm_graph.proofs.law_face_edges_are_edges.Goals as goal

pub returns : goal.returns
returns c = face_edges_are_edges
