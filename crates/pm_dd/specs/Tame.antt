-- Tame rows: those on which double description never leaves the range.
use Rattle.std.specs.Prelude.{ℕ, ◌<◌, ◌≤◌, ◌^◌, Bool, true, List, length, take, unsigned_abs}
use Rattle.std.specs.List.{All, AllPairs}
use Rattle.pm_vector.specs.Rows.{Row, entry}
use Rattle.pm_vector.specs.Bases.{row_at}
use Rattle.pm_vector.specs.Enlarging.{MarkEnlarging}
use Rattle.pm_vector.specs.Evidence.{IsBasisOf, Lists}
use Rattle.pm_vector.specs.Steps.{ReducedBy}
use Rattle.pm_vector.specs.declared.evidence.ElimList.{ElimList}
use Rattle.pm_geom.specs.Cones.{CutOut, IsExtreme, SameModulo}
use Rattle.pm_geom.specs.Generators.{IsCanonicalRay}
use Rattle.pm_geom.specs.StatedOrder.{IsStatedFront, rows_marked}
use Rattle.pm_limits.specs.Limits.{most_columns, most_rows}

-- each entry of x is less than 2^k in size
abbrev pub IsSmall : ℕ → Row → Type 0
IsSmall k x = (i : ℕ) → unsigned_abs (entry x i) < 2 ^ k

-- each front of the stated order that spans the rows cuts out a cone with at most most_rows extreme rays, whose
-- canonical rows have entries below 2^40 in size
pub record FrontsAreSmall (n : ℕ) (X : List Row) : Type 0 where
  pub few : (Y : List Row) (f : ℕ) → IsStatedFront X Y f → (V : List Row)
      → All (IsExtreme n (CutOut (take f Y))) V
      → AllPairs (λ v w. ¬ (SameModulo n (CutOut (take f Y)) v w)) V → length V ≤ most_rows
  pub small : (Y : List Row) (f : ℕ) → IsStatedFront X Y f → (r : Row)
      → IsCanonicalRay n (CutOut (take f Y)) r → IsSmall 40 r

-- every basis row and every partly reduced row of the elimination of the rows X, of m entries each, has entries below
-- 2^62 in size
pub record EliminationIsSmall (m : ℕ) (X : List Row) : Type 0 where
  pub basis : (f : ℕ) (B : List Row) (P : List ℕ) → IsBasisOf m (take f X) B P → (k : ℕ) → k < length B
      → IsSmall 62 (row_at B k)
  pub part : (f : ℕ) (B : List Row) (P : List ℕ) → f < length X → IsBasisOf m (take f X) B P → (k : ℕ)
      → k ≤ length B → (r : Row) → ReducedBy (take k B) (take k P) (row_at X f) r → IsSmall 62 r

-- so it is for each list that an elimination of the rows X, of their null space or of their dual rows goes through
pub record EliminationsAreSmall (n : ℕ) (X : List Row) : Type 0 where
  pub each : (list : ElimList) (m : ℕ) (listed : List Row) → Lists n X list m listed
      → EliminationIsSmall m listed

-- the rows X, with n entries each, are tame
pub record AreTame (n : ℕ) (X : List Row) : Type 0 where
  pub few_columns : n ≤ most_columns
  pub small : All (IsSmall 20) X
  pub fronts : FrontsAreSmall n X
  pub whole : EliminationsAreSmall n X
  pub enlarging : (marks : List Bool) → MarkEnlarging X marks
      → EliminationsAreSmall n (rows_marked true marks X)
