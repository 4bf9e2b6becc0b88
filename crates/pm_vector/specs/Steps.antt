-- Elimination of whole rows, step by step.
use Rattle.pm_vector.specs.Cones.{InSpan}
use Rattle.pm_vector.specs.Divisors.{IsPrimitiveOf}
use Rattle.pm_vector.specs.Rows.{Row, difference, entry, opposite}
use Rattle.pm_vector.specs.Bases.{column, row_at}
use Rattle.pm_vector.specs.Differences.{EntryStays}
use Rattle.std.specs.Int.{IsGcd}
use Rattle.std.specs.Prelude.{List, [], length, take, unsigned_abs, ℕ, ◌<◌, ◌∷◌, ◌≡◌, ◌⊎◌}
use lib.IntN.{pos, ℤ, ◌*ℤ◌}
use lib.Signed.{◌<ℤ◌}

-- p = y/g and q = x/g, where g is the greatest common divisor of |x| and y; y is positive
pub record IsFactors (x y p q : ℤ) : Type 0 where
  pub g : ℕ
  pub greatest : IsGcd (unsigned_abs x) (unsigned_abs y) g
  pub first : y ≡ p *ℤ pos g
  pub second : x ≡ q *ℤ pos g
  pub positive : pos 0 <ℤ y

-- the row r, which is not 0 in the column c, is reduced by the basis row b: (b_c/g) r - (r_c/g) b, made primitive, is
-- m
pub record IsStep (r b : Row) (c : ℕ) (m : Row) : Type 0 where
  pub p : ℤ
  pub q : ℤ
  pub not_zero : ¬ (entry r c ≡ pos 0)
  pub factors : IsFactors (entry r c) (entry b c) p q
  pub result : IsPrimitiveOf (difference p r q b) m

-- m is r where r is 0 in the column c, and else r reduced by b
abbrev pub IsReducedOnce : Row → Row → ℕ → Row → Type 0
IsReducedOnce r b c m = ((entry r c ≡ pos 0) × (m ≡ r)) ⊎ IsStep r b c m

-- in the column i one of the two products of that step, or their difference, leaves the range from -(2^127 - 1) to
-- 2^127 - 1
pub record StepIsWide (r b : Row) (c i : ℕ) : Type 0 where
  pub p : ℤ
  pub q : ℤ
  pub not_zero : ¬ (entry r c ≡ pos 0)
  pub factors : IsFactors (entry r c) (entry b c) p q
  pub wide : ¬ (EntryStays p (entry r i) q (entry b i))

-- that step leaves the range in no column
abbrev pub StepStays : Row → Row → ℕ → Type 0
StepStays r b c = (i : ℕ) → ¬ StepIsWide r b c i

-- r is reduced by the rows of B, in turn, in the columns P where it is not 0, and becomes m
abbrev pub ReducedBy : List Row → List ℕ → Row → Row → Type 0
ReducedBy [] P r m = m ≡ r
ReducedBy (b ∷ B) [] r m = ⊥
ReducedBy (b ∷ B) (c ∷ P) r m = (k : Row) × IsReducedOnce r b c k × ReducedBy B P k m

-- each step of this reduction stays in the range
abbrev pub ReductionStays : List Row → List ℕ → Row → Type 0
ReductionStays B P r = (k : ℕ) (m : Row) → k < length B → ReducedBy (take k B) (take k P) r m
    → StepStays m (row_at B k) (column P k)

-- some positive multiples of r and of m differ by a row of the span of B
pub record SameDirectionModulo (B : List Row) (r m : Row) : Type 0 where
  pub p : ℤ
  pub g : ℤ
  pub p_positive : pos 0 <ℤ p
  pub g_positive : pos 0 <ℤ g
  pub inside : InSpan B (difference p r g m)

-- x is r made primitive, with a positive entry in the column c, the first in which r is not 0
pub record IsPivotRow (r : Row) (c : ℕ) (x : Row) : Type 0 where
  pub not_zero : ¬ (entry r c ≡ pos 0)
  pub before : (d : ℕ) → d < c → entry r d ≡ pos 0
  pub positive : pos 0 <ℤ entry x c
  pub primitive : IsPrimitiveOf r x ⊎ IsPrimitiveOf (opposite r) x
