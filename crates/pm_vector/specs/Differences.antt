-- When the combination of two rows stays within the range of the program's numbers.
use Rattle.pm_vector.specs.Numbers.{InRange}
use Rattle.pm_vector.specs.Rows.{Row, entry}
use Rattle.std.specs.Prelude.{length, unsigned_abs, ℕ, ◌<◌, ◌^◌}
use lib.IntN.{ℤ, ◌*ℤ◌, ◌-ℤ◌}

-- z is below 2^63 in absolute value
abbrev pub IsSmall : ℤ → Type 0
IsSmall z = unsigned_abs z < 2 ^ 63

-- the products p x and q y and their difference are in the range
pub record EntryStays (p x q y : ℤ) : Type 0 where
  pub first : InRange (p *ℤ x)
  pub second : InRange (q *ℤ y)
  pub difference : InRange (p *ℤ x -ℤ q *ℤ y)

-- the products and the difference are in the range for each entry of v and its entry of w
pub record DifferenceStays (p : ℤ) (v : Row) (q : ℤ) (w : Row) : Type 0 where
  pub at_each : (i : ℕ) → EntryStays p (entry v i) q (entry w i)

-- they are for the entries before place i, and not at i
pub record IsFirstWide (p : ℤ) (v : Row) (q : ℤ) (w : Row) (i : ℕ) : Type 0 where
  pub within : i < length v
  pub wide : EntryStays p (entry v i) q (entry w i) → ⊥
  pub before : (k : ℕ) → k < i → EntryStays p (entry v k) q (entry w k)
