-- Empty spheres of sets of sites, Delaunay's condition (Edelsbrunner, Algorithms in Combinatorial Geometry, chapter
-- 13;
-- De Loera, Rambau and Santos, Triangulations, section 2.2).
use Rattle.std.specs.Prelude.{ℕ, ◌≡◌, ◌<◌, Bool, IsTrue, List, drop, length}
use Rattle.pm_vector.specs.Numbers.{IsBelow, Ratio, SameRatio}
use Rattle.pm_vector.specs.Rows.{Row, difference, dot, entry}
use Rattle.pm_geom.specs.Faces.{ray}
use lib.IntN.{ℤ, pos, ◌*ℤ◌, ◌-ℤ◌}
use lib.Signed.{◌<ℤ◌}

-- |p|^2 - h(p) at the point p of q, for h(p) = b.q / (m q_0), times the positive number m q_0^2
abbrev pub height_above : Row → ℤ → Row → ℤ
height_above b m q = m *ℤ dot (drop 1 q) (drop 1 q) -ℤ entry q 0 *ℤ dot b q

-- for some affine function h the number |p|^2 - h(p) is 0 exactly at the sites of f, and positive at all others
pub record HasAffineFunction (n : ℕ) (Q : List Row) (f : ℕ → Bool) : Type 0 where
  pub b : Row
  pub m : ℤ
  pub cols : length b ≡ n
  pub positive : pos 0 <ℤ m
  pub inside : (j : ℕ) → j < length Q → IsTrue (f j) → height_above b m (ray Q j) ≡ pos 0
  pub outside : (j : ℕ) → j < length Q → ¬ (IsTrue (f j)) → pos 0 <ℤ height_above b m (ray Q j)

-- the square of the distance of the point of c from the point of q
abbrev pub distance_square : Row → Row → Ratio
distance_square c q =
    record {
      num = dot (drop 1 (difference (entry c 0) q (entry q 0) c))
          (drop 1 (difference (entry c 0) q (entry q 0) c));
      den = (entry c 0 *ℤ entry q 0) *ℤ (entry c 0 *ℤ entry q 0);
    }

-- the sites of f lie on one sphere, about the point of a row, and all others lie outside of it
pub record HasEmptySphere (n : ℕ) (Q : List Row) (f : ℕ → Bool) : Type 0 where
  pub center : Row
  pub radius_square : Ratio
  pub cols : length center ≡ n
  pub point : pos 0 <ℤ entry center 0
  pub positive : pos 0 <ℤ radius_square.den
  pub on : (j : ℕ) → j < length Q → IsTrue (f j) → SameRatio (distance_square center (ray Q j)) radius_square
  pub outside : (j : ℕ) → j < length Q → ¬ (IsTrue (f j))
      → IsBelow radius_square (distance_square center (ray Q j))
