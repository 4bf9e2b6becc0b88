use Rattle.pm_laws_normal_fans.proofs.ExampleIntersections.{intersections_are_read}
use Rattle.pm_laws_normal_fans.proofs.example_intersections.Goals as goal

pub returns : goal.returns
returns c = intersections_are_read
