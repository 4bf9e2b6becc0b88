-- Sites with heights, lower faces, and the cells of the regular subdivision that the heights induce (Ziegler, Lectures
-- on Polytopes, section 5.1; De Loera, Rambau and Santos, Triangulations, section 2.2). A site is a row q of n entries
-- with a positive first entry, and stands for the point (q_1/q_0, q_2/q_0, ..); its height is a fraction. A set of
-- sites is a test on their places.
use Rattle.std.specs.Prelude.{ℕ, ◌≡◌, ◌<◌, ◌↔◌, Bool, IsTrue, List, drop, length, map}
use Rattle.std.specs.List.{All, AllPairs, Any}
use Rattle.pm_vector.specs.Numbers.{Ratio}
use Rattle.pm_vector.specs.Rows.{Row, dot, entry, ratio_at}
use Rattle.pm_geom.specs.FaceCounts.{IsLexBefore, SamePlaces}
use Rattle.pm_geom.specs.Faces.{ray}
use Rattle.pm_geom.specs.Graphs.{IsAscending, holds}
use lib.IntN.{ℤ, pos, ◌*ℤ◌}
use lib.Signed.{◌<ℤ◌, ◌≤ℤ◌}

-- the rows Q are sites, and W has a height for each
pub record AreSites (n : ℕ) (Q : List Row) (W : List Ratio) : Type 0 where
  pub cols : (j : ℕ) → j < length Q → length (ray Q j) ≡ n
  pub positive : (j : ℕ) → j < length Q → pos 0 <ℤ entry (ray Q j) 0
  pub denominators : (j : ℕ) → j < length Q → pos 0 <ℤ (ratio_at W j).den

-- the affine function that is b.q / (m q_0) at the point of q, for m > 0, is at most the height at each site
-- (by cross products)
pub record IsUnder (n : ℕ) (Q : List Row) (W : List Ratio) (b : Row) (m : ℤ) : Type 0 where
  pub cols : length b ≡ n
  pub positive : pos 0 <ℤ m
  pub below : (j : ℕ) → j < length Q
      → (dot b (ray Q j) *ℤ (ratio_at W j).den) ≤ℤ (m *ℤ (entry (ray Q j) 0 *ℤ (ratio_at W j).num))

-- at the site at place j that function is equal to the height
abbrev pub Touches : List Row → List Ratio → Row → ℤ → ℕ → Type 0
Touches Q W b m j = dot b (ray Q j) *ℤ (ratio_at W j).den ≡ m *ℤ (entry (ray Q j) 0 *ℤ (ratio_at W j).num)

-- f holds of exactly the sites at which one such function is equal to the height: those on a lower face
pub record IsLowerFace (n : ℕ) (Q : List Row) (W : List Ratio) (f : ℕ → Bool) : Type 0 where
  pub b : Row
  pub m : ℤ
  pub function : IsUnder n Q W b m
  pub places : (j : ℕ) → j < length Q → IsTrue (f j) ↔ Touches Q W b m j

-- a lower face that is within no other one
pub record IsCell (n : ℕ) (Q : List Row) (W : List Ratio) (f : ℕ → Bool) : Type 0 where
  pub face : IsLowerFace n Q W f
  pub maximal : (g : ℕ → Bool) → IsLowerFace n Q W g → ((j : ℕ) → j < length Q → IsTrue (f j) → IsTrue (g j))
      → (j : ℕ) → j < length Q → IsTrue (g j) → IsTrue (f j)

-- exactly the cells, each once: as rising lists of places, in lexicographic order
pub record AreCells (n : ℕ) (Q : List Row) (W : List Ratio) (cells : List (List ℕ)) : Type 0 where
  pub each : All (λ set. IsAscending (length Q) set × IsCell n Q W (holds set)) cells
  pub all : (f : ℕ → Bool) → IsCell n Q W f → Any (λ set. SamePlaces (length Q) f (holds set)) cells
  pub ordered : AllPairs IsLexBefore cells

-- the square of the distance of the point of q from the origin: of the entries after the first, divided by that one
abbrev pub square_of : Row → Ratio
square_of q = record { num = dot (drop 1 q) (drop 1 q); den = entry q 0 *ℤ entry q 0 }

-- these squares as heights, by which the sites lie on a paraboloid: their cells are the Delaunay cells (Edelsbrunner,
-- Algorithms in Combinatorial Geometry, chapter 13; De Loera, Rambau and Santos, section 2.2)
abbrev pub squares : List Row → List Ratio
squares Q = map square_of Q
