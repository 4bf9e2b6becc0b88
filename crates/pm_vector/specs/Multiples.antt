-- Rows that are a multiple of a row in the range.
use Rattle.pm_vector.specs.Numbers.{InRange}
use Rattle.pm_vector.specs.Rows.{Row, entry}
use Rattle.std.specs.Prelude.{ℕ, ◌<◌, ◌≡◌, length}
use lib.IntN.{pos, ℤ, ◌*ℤ◌}

-- z is d times a number in the range
pub record HasQuotient (z : ℤ) (d : ℕ) : Type 0 where
  pub quotient : ℤ
  pub in_range : InRange quotient
  pub times : z ≡ pos d *ℤ quotient

-- each of the first n entries of x is
abbrev pub HaveQuotients : Row → ℕ → ℕ → Type 0
HaveQuotients x d n = (i : ℕ) → i < n → HasQuotient (entry x i) d

-- x is d times the row y
pub record AreQuotients (x : Row) (d : ℕ) (y : Row) : Type 0 where
  pub cols : length y ≡ length x
  pub times : (i : ℕ) → i < length x → entry x i ≡ pos d *ℤ entry y i
