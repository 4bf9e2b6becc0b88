use Rattle.pm_laws_normal_fans.proofs.ExampleVertices.{vertices_are_read}
use Rattle.pm_laws_normal_fans.proofs.example_vertices.Goals as goal

pub returns : goal.returns
returns c = vertices_are_read
