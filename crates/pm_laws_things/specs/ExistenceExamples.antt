-- Which built things there are, and which there are not: a thing has at most 33 columns.
use Rattle.std.specs.Prelude.{ℕ, [], ◌+◌, ◌∷◌, ◌≡◌, ◌≤◌}
use Rattle.pm_geom.specs.Examples.{half_line, pair, square, triple}
use Rattle.pm_laws_normal_fans.specs.Examples.{even_corners}
use Rattle.pm_laws_things.specs.Built.{IsCross, IsCube, IsCyclic, IsProduct, IsPyramid, IsSimplex, IsSum}
use Rattle.pm_laws_things.specs.BuildingExamples.{even_segment}
use Rattle.pm_laws_things.specs.Existence.{IsSomeFan, IsSomePolytope, SomeThing}
use Rattle.pm_laws_things.specs.FanExamples.{polytope, rays_of_line}
use Rattle.pm_laws_things.specs.FanLaws.{IsBounded, IsFaceFanOf, IsNormalFanOf, IsRefinementOfFans}
use Rattle.pm_object_type.specs.declared.object_type.ObjectType.TheVariants.{Cone}
use Rattle.pm_types.specs.Right.{InSet, IsCentered}
use Rattle.pm_types.specs.Things.{Thing}
use Rattle.pm_limits.specs.Limits.{most_columns, most_dimensions}

pub record ExistenceIsRead : Type 0 where
  -- in 32 dimensions, and in none more
  pub largest : SomeThing (IsCube most_dimensions)
  pub no_cube : (d : ℕ) → most_columns ≤ d → ¬ (SomeThing (IsCube d))
  pub no_simplex : (d : ℕ) → most_columns ≤ d → ¬ (SomeThing (IsSimplex d))
  pub no_cross : (d : ℕ) → most_columns ≤ d → ¬ (SomeThing (IsCross d))
  pub no_cyclic : (d n : ℕ) → most_columns ≤ d → ¬ (SomeThing (IsCyclic d n))
  -- the cyclic polytope of no points is empty
  pub no_points : SomeThing (IsCyclic 2 0)
  pub no_product : (t s : Thing) → 35 ≤ t.cols + s.cols → ¬ (SomeThing (IsProduct t s))
  pub no_pyramid : (t : Thing) → most_columns ≤ t.cols → ¬ (SomeThing (IsPyramid t))
  -- a cone is no polytope
  pub not_cone : ¬ (IsSomePolytope (record even_segment { of = Cone }))
  -- the unit square and itself have a sum, none of more than 33 columns; that with the empty polytope has no point
  pub sum : SomeThing (IsSum (polytope 3 square) (polytope 3 square))
  pub no_sum : (t s : Thing) → (most_columns + 1) ≤ t.cols → ¬ (SomeThing (IsSum t s))
  pub empty_sum : SomeThing (IsSum (polytope 3 square) (polytope 3 []))
  pub no_point : ¬ (SomeThing (λ u. IsSum (polytope 3 square) (polytope 3 []) u × InSet u (triple 1 0 0)))

-- which fans there are
pub record FanExistenceIsRead : Type 0 where
  -- the unit square has a normal fan, and no polytope of one column has
  pub normal : SomeThing (IsNormalFanOf (polytope 3 square))
  pub no_normal : (t : Thing) → t.cols ≤ 1 → ¬ (SomeThing (IsNormalFanOf t))
  -- the law speaks of no empty polytope, and not of the half line
  pub empty : ¬ (IsBounded (polytope 3 []))
  pub unbounded : ¬ (IsBounded (polytope 2 half_line))
  -- the square around 0 has a face fan; the segment from 0 to 1, with 0 at its end, has none
  pub face : SomeThing (IsFaceFanOf (polytope 3 even_corners))
  pub no_face : ¬ (SomeThing (IsFaceFanOf (polytope 2 (pair 1 0 ∷ pair 1 1 ∷ []))))
  pub not_centered : ¬ (IsCentered (polytope 2 (pair 1 0 ∷ pair 1 1 ∷ [])))
  pub no_face_of_one : (t : Thing) → t.cols ≤ 1 → ¬ (SomeThing (IsFaceFanOf t))
  -- the two rays of the line have a refinement with themselves; two things whose column counts differ have none
  pub refinement : SomeThing (IsRefinementOfFans rays_of_line rays_of_line)
  pub no_refinement : (t s : Thing) → ¬ (s.cols ≡ t.cols) → ¬ (SomeThing (IsRefinementOfFans t s))
  -- a polytope is no fan
  pub no_fan : ¬ (IsSomeFan (polytope 3 square))
