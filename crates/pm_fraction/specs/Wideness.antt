-- When the primitive row of a row of fractions is made within the range. The numbers on the way are, column by
-- column, the least common multiple of the denominators so far, and then, column by column, the numerator over the
-- last of these.
use Rattle.pm_vector.specs.Numbers.{InRange, Ratio}
use Rattle.pm_fraction.specs.FractionRows.{IsLeastDenominator, numerator_over}
use Rattle.pm_vector.specs.Rows.{ratio_at}
use Rattle.pm_fraction.specs.declared.fails.RowFail.TheVariants.{Memory, Wide}
use Rattle.pm_fraction.specs.declared.fails.RowFail.{RowFail}
use Rattle.pm_fraction.specs.declared.fails.RowsFail.TheVariants.{Memory as NoMemory, Wide as WideRow}
use Rattle.pm_fraction.specs.declared.fails.RowsFail.{RowsFail}
use Rattle.std.specs.List.{slice_index_or}
use Rattle.std.specs.Prelude.{List, [], length, unsigned_abs, ℕ, ◌+◌, ◌/◌, ◌<◌, ◌≡◌, ◌≤◌, ◌⊎◌}
use lib.IntN.{pos, ℤ, ◌*ℤ◌}

-- each least common multiple of the first up to k denominators is in the range
pub record DenominatorsStay (r : List Ratio) (k : ℕ) : Type 0 where
  pub stay : (i m : ℕ) → i ≤ k → IsLeastDenominator r i m → InRange (pos m)

-- each of the first k numerators over m is in the range
pub record NumeratorsStay (r : List Ratio) (m k : ℕ) : Type 0 where
  pub stay : (i : ℕ) → i < k → InRange (numerator_over m (ratio_at r i))

-- all numbers on the way are in the range
pub record RowStays (r : List Ratio) : Type 0 where
  pub denominator : ℕ
  pub least : IsLeastDenominator r (length r) denominator
  pub denominators : DenominatorsStay r (length r)
  pub numerators : NumeratorsStay r denominator (length r)

-- the first number out of the range is a least common multiple, that of a and b
pub record IsFirstWideDenominator (r : List Ratio) (a b : ℤ) : Type 0 where
  pub k : ℕ
  pub m : ℕ
  pub within : k < length r
  pub a_is : a ≡ pos m
  pub b_is : b ≡ (ratio_at r k).den
  pub so_far : IsLeastDenominator r k m
  pub before : DenominatorsStay r k
  pub wide : (n : ℕ) → IsLeastDenominator r (k + 1) n → InRange (pos n) → ⊥

-- the first number out of the range is a numerator, the product of a and b
pub record IsFirstWideNumerator (r : List Ratio) (a b : ℤ) : Type 0 where
  pub k : ℕ
  pub m : ℕ
  pub within : k < length r
  pub least : IsLeastDenominator r (length r) m
  pub a_is : a ≡ (ratio_at r k).num
  pub b_is : b ≡ pos (m / unsigned_abs (ratio_at r k).den)
  pub denominators : DenominatorsStay r (length r)
  pub before : NumeratorsStay r m k
  pub wide : InRange (a *ℤ b) → ⊥

-- the first number out of the range is a least common multiple or a numerator, and a and b make it
abbrev pub IsFirstWide : List Ratio → ℤ → ℤ → Type 0
IsFirstWide r a b = IsFirstWideDenominator r a b ⊎ IsFirstWideNumerator r a b

-- what an error says of a row
abbrev pub IsWideAt : List Ratio → RowFail → Type 0
IsWideAt r (Wide a b) = IsFirstWide r a b
IsWideAt r Memory = Unit {0}

-- all numbers on the way are in the range for each of the first n rows
pub record RowsStay (rows : List (List Ratio)) (n : ℕ) : Type 0 where
  pub stay : (i : ℕ) → i < n → RowStays (slice_index_or rows i [])

-- row i is the first that leaves the range, by a and b
pub record IsFirstWideRow (rows : List (List Ratio)) (i : ℕ) (a b : ℤ) : Type 0 where
  pub within : i < length rows
  pub before : RowsStay rows i
  pub wide : IsFirstWide (slice_index_or rows i []) a b

-- what an error says of a row that stands at place i
abbrev pub IsWideInRow : List Ratio → ℕ → RowsFail → Type 0
IsWideInRow r i (WideRow k a b) = (k ≡ i) × IsFirstWide r a b
IsWideInRow r i NoMemory = Unit {0}

-- what an error says of rows
abbrev pub IsWideRow : List (List Ratio) → RowsFail → Type 0
IsWideRow rows (WideRow i a b) = IsFirstWideRow rows i a b
IsWideRow rows NoMemory = Unit {0}
