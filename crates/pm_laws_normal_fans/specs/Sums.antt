-- Vertices of polytopes, the objectives that are least there, and Minkowski sums (Ziegler, Lectures on Polytopes,
-- sections 1.1 and 7.1).
-- A polytope is told by the cone over it: a row x of that cone with x_0 > 0 stands for the point (x_1/x_0, ..,
-- x_d/x_0).
use Rattle.std.specs.Prelude.{ℕ, zero, suc, ◌≡◌, ◌↔◌, ◌++◌, Bool, true, false, not, List, [], ◌∷◌, filter, length, map}
use Rattle.std.specs.List.{All, Any, Contains}
use Rattle.pm_vector.specs.Cones.{InCone}
use Rattle.pm_vector.specs.Rows.{Row, dot, entry, plus, times, HasCols, IsZero}
use Rattle.pm_geom.specs.Cones.{IsExtreme}
use Rattle.pm_geom.specs.Things.{IsPolytopeThing}
use Rattle.pm_laws_normal_fans.specs.Shadows.{rest}
use lib.IntN.{ℤ, pos, negsuc, ◌+ℤ◌, ◌*ℤ◌}
use lib.Signed.{◌<ℤ◌, ◌≤ℤ◌}

-- the cone that these rows generate, with the lines
pub record Cone : Type 0 where
  pub generators : List Row
  pub lines : List Row

-- the rows of the cone
abbrev pub In : Cone → Row → Type 0
In P = InCone P.generators P.lines

-- ---- vertices, and what is least there
-- the objective c at what stands after the first entry of x
abbrev pub value : Row → Row → ℤ
value c x = dot (pos 0 ∷ c) x

-- no row of S but 0 has the first entry 0: the polytope has no direction in which it is unbounded
pub record IsBounded (n : ℕ) (S : Row → Type 0) : Type 0 where
  pub only_zero : (x : Row) → length x ≡ n → S x → entry x 0 ≡ pos 0 → IsZero x

-- v is an extreme row of S, and stands for a point
pub record IsVertex (n : ℕ) (S : Row → Type 0) (v : Row) : Type 0 where
  pub extreme : IsExtreme n S v
  pub point : pos 0 <ℤ entry v 0

-- among the points of S the objective c is least at that of v: c v / v_0 <= c x / x_0
pub record IsLeastAt (n : ℕ) (S : Row → Type 0) (v c : Row) : Type 0 where
  pub cols : suc (length c) ≡ n
  pub least : (x : Row) → length x ≡ n → S x → pos 0 <ℤ entry x 0
      → (entry x 0 *ℤ value c v) ≤ℤ (entry v 0 *ℤ value c x)

-- the polytope has some point
abbrev pub IsInhabited : ℕ → Cone → Type 0
IsInhabited n P = (x : Row) × (length x ≡ n) × In P x × (pos 0 <ℤ entry x 0)

-- a bounded polytope that is not empty
pub record IsBoundedPolytope (n : ℕ) (P : Cone) : Type 0 where
  pub thing : IsPolytopeThing n P.generators P.lines
  pub bounded : IsBounded n (In P)
  pub some : IsInhabited n P

-- ---- Minkowski sums (section 1.1)
-- x, y and z have one first entry, and each other entry of z is the sum of those of x and y
pub record IsPointSum (x y z : Row) : Type 0 where
  pub first : entry x 0 ≡ entry z 0
  pub second : entry y 0 ≡ entry z 0
  pub others : (i : ℕ) → entry z (suc i) ≡ entry x (suc i) +ℤ entry y (suc i)

-- a positive multiple of z is the sum, by points, of a row of S and a row of T
pub record InMinkowskiSum (n : ℕ) (S T : Row → Type 0) (z : Row) : Type 0 where
  pub factor : ℤ
  pub first : Row
  pub second : Row
  pub positive : pos 0 <ℤ factor
  pub first_cols : length first ≡ n
  pub second_cols : length second ≡ n
  pub of_first : S first
  pub of_second : T second
  pub sum : IsPointSum first second (times factor z)

-- R is the cone over the sum of the polytopes that P and Q are the cones over
pub record IsSumOf (n : ℕ) (P Q R : Cone) : Type 0 where
  pub generators : HasCols n R.generators
  pub lines : HasCols n R.lines
  pub sum : (x : Row) → length x ≡ n → In R x ↔ InMinkowskiSum n (In P) (In Q) x

-- ---- rows of a sum
-- the rows are in the sum; some positive multiple of one of them is the sum of each two generators that stand for
-- points, and the other generators are among them
pub record AreSumRows (n : ℕ) (P Q : Cone) (rows : List Row) : Type 0 where
  pub cols : HasCols n rows
  pub each : All (λ x. InMinkowskiSum n (In P) (In Q) x) rows
  pub pairs : (v w : Row) → Contains P.generators v → Contains Q.generators w → pos 0 <ℤ entry v 0
      → pos 0 <ℤ entry w 0 →
      Any (λ x. (p : ℤ) × (pos 0 <ℤ p) × IsPointSum (times (entry w 0) v) (times (entry v 0) w)
      (times p x)) rows
  pub first_far : (v : Row) → Contains P.generators v → entry v 0 ≡ pos 0 → Contains rows v
  pub second_far : (w : Row) → Contains Q.generators w → entry w 0 ≡ pos 0 → Contains rows w

-- the rows V and the lines K generate P
pub record AreRowsOf (n : ℕ) (P : Cone) (V K : List Row) : Type 0 where
  pub rows : HasCols n V
  pub lines : HasCols n K
  pub same : (x : Row) → length x ≡ n → In P x ↔ InCone V K x

abbrev pub is_positive : ℤ → Bool
is_positive (pos zero) = false
is_positive (pos (suc k)) = true
is_positive (negsuc k) = false

-- the rows that stand for points
abbrev pub points : List Row → List Row
points V = filter (λ x. is_positive (entry x 0)) V

-- the other rows
abbrev pub far : List Row → List Row
far V = filter (λ x. not (is_positive (entry x 0))) V

-- the sum of the points of v and w: v_0 w_0 and the entries w_0 v_k + v_0 w_k
abbrev pub point_sum : Row → Row → Row
point_sum v w = (entry v 0 *ℤ entry w 0) ∷ plus (times (entry w 0) (rest v)) (times (entry v 0) (rest w))

-- that of each row of V with each row of W, in order
abbrev pub point_sums : List Row → List Row → List Row
point_sums [] W = []
point_sums (v ∷ V) W = map (point_sum v) W ++ point_sums V W

-- the sums of points, then the other rows of V, then those of W
abbrev pub sum_rows : List Row → List Row → List Row
sum_rows V W = point_sums (points V) (points W) ++ (far V ++ far W)
