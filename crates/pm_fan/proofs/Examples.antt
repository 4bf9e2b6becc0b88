-- The examples, computed.
use Rattle.pm_fan.specs.Examples.{ConditionsAreRead, FansAreRead}
use Rattle.std.proofs.Common.{refl}

pub fans : FansAreRead
fans = record {
  without_first = refl;
  some_kept = refl;
  holders = refl;
  square = refl;
  point = refl;
  far_facet = refl;
  ends = refl;
  apex = refl;
}

pub conditions : ConditionsAreRead
conditions = record {
  normal = refl;
  normal_of_point = refl;
  not_centered = refl;
  of_type = refl;
  bounded = refl;
  feasible = refl;
  columns = refl;
  of_facets = refl;
  of_vertices = refl;
  no_normal = refl;
  face = refl;
  face_of_point = refl;
  not_feasible = refl;
  face_of_type = refl;
  face_bounded = refl;
  face_centered = refl;
  face_columns = refl;
  face_of_vertices = refl;
  no_ray = refl;
}
