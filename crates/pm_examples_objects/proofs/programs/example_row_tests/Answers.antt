-- Each is computed.
use Rattle.std.proofs.Common.{refl}
use Rattle.pm_examples_objects.proofs.programs.example_row_tests.Goals as goal

pub returns : goal.returns
returns c = record {
  point = refl;
  point_behind = refl;
  ray_behind = refl;
  line = refl;
  no_line = refl;
  line_of_cone = refl;
  vertex = refl;
  vertex_behind = refl;
  zero_vertex = refl;
  zero_ray = refl;
  ray_of_fan = refl;
  facet = refl;
  zero_facet = refl;
}
