-- Polytopes that are built, by their points (Ziegler, Lectures on Polytopes, examples 0.4 and 0.6, sections 1.5 and
-- 2.3). A row x of the cone over a polytope with x_0 > 0 is its point (x_1/x_0, .., x_d/x_0), and by its points a
-- polytope is told.
use Rattle.std.specs.Prelude.{ℕ, suc, ◌+◌, ◌-◌, ◌≡◌, ◌<◌, ◌↔◌, List, [], ◌∷◌, ◌++◌, drop, length, map, take}
use Rattle.pm_vector.specs.Cones.{InCone}
use Rattle.pm_vector.specs.Rows.{Row, Same, dot, entry, plus, times}
use Rattle.pm_object_type.specs.declared.object_type.ObjectType.TheVariants.{Polytope}
use Rattle.pm_types.specs.Right.{InSet}
use Rattle.pm_types.specs.Things.{Thing}
use Rattle.pm_build.specs.Rows.{apex_row, curve_points, headed, opposite_units, simplex_corners}
use Rattle.pm_laws_normal_fans.specs.Sums.{InMinkowskiSum}
use lib.IntN.{ℤ, pos, neg_ℤ}
use lib.Signed.{◌<ℤ◌, ◌≤ℤ◌}

-- u is a polytope of n columns whose points are the rows with P
pub record HasPoints (u : Thing) (n : ℕ) (P : Row → Type 0) : Type 0 where
  pub of : u.of ≡ Polytope
  pub cols : u.cols ≡ n
  pub points : (x : Row) → length x ≡ n → pos 0 <ℤ entry x 0 → InSet u x ↔ P x

-- each coordinate x_i/x_0 is from -1 to 1
pub record InCube (d : ℕ) (x : Row) : Type 0 where
  pub within : (i : ℕ) → i < d → (neg_ℤ (entry x 0) ≤ℤ entry x (suc i)) × (entry x (suc i) ≤ℤ entry x 0)

-- the cube in d dimensions
abbrev pub IsCube : ℕ → Thing → Type 0
IsCube d u = HasPoints u (suc d) (InCube d)

-- the point lies in the convex hull of the vectors of V: it is in the cone of the rows (1, v)
abbrev pub InHull : List Row → Row → Type 0
InHull V x = InCone (map headed V) [] x

-- the convex hull of vectors of d entries
abbrev pub IsHull : ℕ → List Row → Thing → Type 0
IsHull d V u = HasPoints u (suc d) (InHull V)

-- of 0 and the unit vectors
abbrev pub IsSimplex : ℕ → Thing → Type 0
IsSimplex d u = IsHull d (simplex_corners d) u

-- of the unit vectors and their opposites
abbrev pub IsCross : ℕ → Thing → Type 0
IsCross d u = IsHull d (opposite_units d d) u

-- of the points at 1, .., n of the moment curve
abbrev pub IsCyclic : ℕ → ℕ → Thing → Type 0
IsCyclic d n u = IsHull d (curve_points d n) u

-- the first columns make a point of t, and the first column and the others one of s
pub record InProduct (t s : Thing) (z : Row) : Type 0 where
  pub first : InSet t (take t.cols z)
  pub second : InSet s (entry z 0 ∷ drop t.cols z)

-- the product of t and s: all pairs of their points
abbrev pub IsProduct : Thing → Thing → Thing → Type 0
IsProduct t s u = HasPoints u (t.cols + s.cols - 1) (InProduct t s)

-- 1 + x.y >= 0 for each point x of t
abbrev pub InPolar : Thing → Row → Type 0
InPolar t y = (x : Row) → length x ≡ t.cols → pos 0 <ℤ entry x 0 → InSet t x → pos 0 ≤ℤ dot y x

-- the polar of t. The sign is this project's own: Ziegler's polar has x.y <= 1
abbrev pub IsPolar : Thing → Thing → Type 0
IsPolar t u = HasPoints u t.cols (InPolar t)

-- an element of the cone of t, with 0 as last entry, and a non-negative multiple of the apex (1, 0, .., 0, 1)
pub record InPyramid (t : Thing) (z : Row) : Type 0 where
  pub x : Row
  pub k : ℤ
  pub cols : length x ≡ t.cols
  pub inside : InSet t x
  pub not_negative : pos 0 ≤ℤ k
  pub sum : Same z (plus (x ++ pos 0 ∷ []) (times k (apex_row t.cols)))

-- the pyramid over t, by its cone: over an unbounded polytope the hull of its points and the apex is not closed
pub record IsPyramid (t u : Thing) : Type 0 where
  pub of : u.of ≡ Polytope
  pub cols : u.cols ≡ suc t.cols
  pub cone : (z : Row) → length z ≡ suc t.cols → InSet u z ↔ InPyramid t z

-- the Minkowski sum of t and s: all sums of a point of t and a point of s
abbrev pub IsSum : Thing → Thing → Thing → Type 0
IsSum t s u = HasPoints u t.cols (InMinkowskiSum t.cols (InSet t) (InSet s))
