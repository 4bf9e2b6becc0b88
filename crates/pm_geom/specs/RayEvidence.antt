-- What evidence of double description shows of the rows X, with n entries each, that were handed in.
use Rattle.std.specs.Prelude.{ℕ, ◌≡◌, ◌<◌, ◌⊎◌, Bool, true, Option, None, Some, List, length, take}
use Rattle.std.specs.List.{All, AllPairs, Contains}
use Rattle.pm_vector.specs.Rows.{Row, dot, entry}
use Rattle.pm_vector.specs.Bases.{row_at}
use Rattle.pm_vector.specs.EliminationSteps.{EliminationStep}
use Rattle.pm_vector.specs.Enlarging.{MarkEnlarging}
use Rattle.pm_vector.specs.Evidence.{IsEvidence}
use Rattle.pm_vector.specs.Steps.{IsFactors}
use Rattle.pm_geom.specs.Cones.{CutOut, IsExtreme, SameModulo}
use Rattle.pm_geom.specs.Generators.{IsCanonicalRay}
use Rattle.pm_geom.specs.StatedOrder.{IsStatedFront, rows_marked}
use Rattle.pm_vector.specs.Differences.{EntryStays}
use Rattle.pm_vector.specs.Products.{ProductsStay}
use lib.IntN.{ℤ, pos}
use lib.Signed.{◌<ℤ◌}
use Rattle.pm_limits.specs.Limits.{most_rows}

-- r and s are adjacent in the cone that A cuts out: no third extreme ray vanishes on each row of A on which both do
pub record AreAdjacentRays (n : ℕ) (A : List Row) (r s : Row) : Type 0 where
  pub third : (t : Row) → IsExtreme n (CutOut A) t
      → ((b : Row) → Contains A b → dot b r ≡ pos 0 → dot b s ≡ pos 0 → dot b t ≡ pos 0)
      → SameModulo n (CutOut A) t r ⊎ SameModulo n (CutOut A) t s

-- in the column c a product or the difference of (a.r) s - (a.s) r, its coefficients divided by their greatest common
-- divisor, leaves the range
pub record IsWideCombination (a r s : Row) (c : ℕ) : Type 0 where
  pub p : ℤ
  pub q : ℤ
  pub factors : IsFactors (dot a s) (dot a r) p q
  pub within : c < length r
  pub wide : ¬ (EntryStays p (entry s c) q (entry r c))

-- a is positive on r and negative on s, the two are adjacent, and their combination leaves the range in the column c
pub record IsWideColumn (n : ℕ) (A : List Row) (a r s : Row) (c : ℕ) : Type 0 where
  pub up : pos 0 <ℤ dot a r
  pub down : dot a s <ℤ pos 0
  pub adjacent : AreAdjacentRays n A r s
  pub combination : IsWideCombination a r s c

-- the product of a with r or with s leaves the range; or, with a column, their combination does there
abbrev pub IsWideNext : ℕ → List Row → Row → Row → Row → Option ℕ → Type 0
IsWideNext n A a r s None = ¬ (ProductsStay a r) ⊎ ¬ (ProductsStay a s)
IsWideNext n A a r s (Some c) = IsWideColumn n A a r s c

-- E2: r and s are canonical extreme rays of the cone of a front of the stated order, and with the next row a step of
-- double description on them leaves the range
pub record IsWidePair (n : ℕ) (X : List Row) (front : ℕ) (r s : Row) (column : Option ℕ) : Type 0 where
  pub ordered : List Row
  pub stated : IsStatedFront X ordered front
  pub more : front < length ordered
  pub first : IsCanonicalRay n (CutOut (take front ordered)) r
  pub second : IsCanonicalRay n (CutOut (take front ordered)) s
  pub wide : IsWideNext n (take front ordered) (row_at ordered front) r s column

-- E5Rays: more than most_rows extreme rays of the cone of a front of the stated order, no two alike up to positive
-- scale and lineality
pub record IsCrowded (n : ℕ) (X : List Row) (front : ℕ) (rays : List Row) : Type 0 where
  pub ordered : List Row
  pub stated : IsStatedFront X ordered front
  pub extreme : All (IsExtreme n (CutOut (take front ordered))) rays
  pub apart : AllPairs (λ v w. ¬ (SameModulo n (CutOut (take front ordered)) v w)) rays
  pub many : most_rows < length rays

-- E1 on the rows that enlarge the span of those before them
pub record IsEnlargingEvidence (n : ℕ) (X : List Row) (e : EliminationStep) : Type 0 where
  pub marks : List Bool
  pub enlarging : MarkEnlarging X marks
  pub evidence : IsEvidence n (rows_marked true marks X) e

-- E1 on the rows, or on those that enlarge the span
abbrev pub IsEliminationEvidence : ℕ → List Row → EliminationStep → Type 0
IsEliminationEvidence n X e = IsEvidence n X e ⊎ IsEnlargingEvidence n X e
