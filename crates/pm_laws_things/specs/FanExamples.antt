-- The definitions read on the fans of squares and of a point: what holds, and what does not.
use Rattle.std.specs.Prelude.{ℕ, List, [], ◌∷◌, map}
use Rattle.std.specs.List.{range_with_len}
use Rattle.pm_vector.specs.Numbers.{Ratio}
use Rattle.pm_vector.specs.Rows.{Row}
use Rattle.pm_fan.specs.Examples.{fitting, point_values, square_values}
use Rattle.pm_fan.specs.Fans.{face_fan_of, normal_fan_of}
use Rattle.pm_geom.specs.Examples.{square}
use Rattle.pm_geom.specs.ThingExamples.{right, two_rays}
use Rattle.pm_laws_things.specs.FanLaws.{DescribesFan, IsBounded, IsFaceFanOf, IsNormalFanOf, IsRefinementOfFans}
use Rattle.pm_laws_normal_fans.specs.Examples.{even_corners, over_edges, quadrants}
use Rattle.pm_object_type.specs.declared.object_type.ObjectType.TheVariants.{Cone, Fan, Polytope}
use Rattle.pm_types.specs.Things.{Thing}
use lib.IntN.{pos}

-- n times 0/1
abbrev pub zero_objective : ℕ → List Ratio
zero_objective n = map (λ k. record { num = pos 0; den = pos 1 }) (range_with_len 0 n)

-- the polytope that these rows of n entries generate
abbrev pub polytope : ℕ → List Row → Thing
polytope n V = record {
  of = Polytope;
  cols = n;
  generators = V;
  lines = [];
  cones = [];
  objective = λ s. zero_objective n;
  sites = [];
  heights = [];
}

-- the fan of these cones over these lines, in n columns
abbrev pub fan_thing : ℕ → List (List Row) → List Row → Thing
fan_thing n cones lines = record {
  of = Fan;
  cols = n;
  generators = [];
  lines = lines;
  cones = cones;
  objective = λ s. zero_objective n;
  sites = [];
  heights = [];
}

-- which fans are those of which polytopes, and what values describe
pub record FansAreRead : Type 0 where
  -- a fan, of one column less than the polytope
  pub normal : IsNormalFanOf (polytope 3 square) (fan_thing 2 quadrants [])
  pub no_cone : ¬ (IsNormalFanOf (polytope 3 square) (record (fan_thing 2 quadrants []) { of = Cone }))
  pub no_column_less : ¬ (IsNormalFanOf (polytope 3 square) (fan_thing 3 quadrants []))
  pub no_cones : ¬ (IsNormalFanOf (polytope 3 square) (fan_thing 2 [] []))
  -- the cones over the edges, and not the normal fan
  pub face : IsFaceFanOf (polytope 3 even_corners) (fan_thing 2 over_edges [])
  pub face_cone
      : ¬ (IsFaceFanOf (polytope 3 even_corners) (record (fan_thing 2 over_edges []) { of = Cone }))
  pub face_columns : ¬ (IsFaceFanOf (polytope 4 even_corners) (fan_thing 2 over_edges []))
  pub other_fan : ¬ (IsFaceFanOf (polytope 3 even_corners) (fan_thing 2 quadrants []))
  -- the face fan of a point is {0}: not the line, since no value says that there is a lineality; that of a square lies
  -- in the plane
  pub apex : DescribesFan (face_fan_of (fitting point_values)) (fan_thing 1 ([] ∷ []) [])
  pub line : ¬ (DescribesFan (face_fan_of (fitting point_values)) (fan_thing 1 ([] ∷ []) (right ∷ [])))
  pub plane : ¬ (DescribesFan (normal_fan_of (fitting square_values)) (fan_thing 1 ([] ∷ []) []))

-- the fan of the two rays of the line
abbrev pub rays_of_line : Thing
rays_of_line = fan_thing 1 two_rays []

-- which fans are common refinements of which, and which polytopes are bounded
pub record RefinementsOfFansAreRead : Type 0 where
  -- the two rays are their own refinement; one of them is not, nor is a fan of another type or of more columns
  pub refined : IsRefinementOfFans rays_of_line rays_of_line rays_of_line
  pub one_ray : ¬ (IsRefinementOfFans rays_of_line rays_of_line (fan_thing 1 ((right ∷ []) ∷ []) []))
  pub refined_cone : ¬ (IsRefinementOfFans rays_of_line rays_of_line (record rays_of_line { of = Cone }))
  pub refined_columns : ¬ (IsRefinementOfFans rays_of_line rays_of_line (fan_thing 2 two_rays []))
  pub other_columns : ¬ (IsRefinementOfFans rays_of_line (fan_thing 2 two_rays []) rays_of_line)
  -- the square is bounded; a fan is no polytope
  pub bounded : IsBounded (polytope 3 square)
  pub no_polytope : ¬ (IsBounded rays_of_line)
