-- Generators of a cone in canonical form (Ziegler, Lectures on Polytopes, section 1.1; Gawrilow and Joswig,
-- polymake). The cone is a set S of rows of n entries: what rows cut out, or the rows that are valid on a cone, whose
-- lineality are the rows that vanish.
use Rattle.std.specs.Prelude.{ℕ, ◌≡◌, ◌<◌, ◌↔◌, List, length}
use Rattle.std.specs.List.{All, AllPairs}
use Rattle.pm_vector.specs.Cones.{InSpan}
use Rattle.pm_vector.specs.Divisors.{IsPrimitive}
use Rattle.pm_vector.specs.Rows.{Row, entry}
use Rattle.pm_vector.specs.Bases.{IsEchelonBasis}
use Rattle.pm_geom.specs.Cones.{InLineality, IsExtreme, IsOrder}
use lib.IntN.{pos}
use lib.Signed.{◌<ℤ◌}

-- x comes before y in lexicographic order: it is less at the first place where they differ
pub record IsBefore (x y : Row) : Type 0 where
  pub place : ℕ
  pub within : place < length x
  pub same : (i : ℕ) → i < place → entry x i ≡ entry y i
  pub below : entry x place <ℤ entry y place

-- x is 0 in each of these columns
abbrev pub VanishAt : List ℕ → Row → Type 0
VanishAt P x = All (λ c. entry x c ≡ pos 0) P

-- K, with pivot columns P, is the echelon basis of the lineality of S
pub record IsLinealityBasis (n : ℕ) (S : Row → Type 0) (K : List Row) (P : List ℕ) : Type 0 where
  pub echelon : IsEchelonBasis n K P
  pub lines : (x : Row) → length x ≡ n → InLineality S x ↔ InSpan K x

-- r is an extreme row of S, primitive, and 0 in the pivot columns of the echelon basis of the lineality
pub record IsCanonicalRay (n : ℕ) (S : Row → Type 0) (r : Row) : Type 0 where
  pub lines : List Row
  pub pivots : List ℕ
  pub basis : IsLinealityBasis n S lines pivots
  pub extreme : IsExtreme n S r
  pub primitive : IsPrimitive r
  pub reduced : VanishAt pivots r

-- V has one row for each extreme row of S, in canonical form and lexicographic order, and K is the echelon basis of
-- the lineality of S
pub record AreGenerators (n : ℕ) (S : Row → Type 0) (V K : List Row) : Type 0 where
  pub pivots : List ℕ
  pub basis : IsLinealityBasis n S K pivots
  pub order : IsOrder n S V
  pub primitive : All IsPrimitive V
  pub reduced : All (VanishAt pivots) V
  pub ascending : AllPairs IsBefore V
