-- When exact work on rows stays within the range of the program's numbers.
use Rattle.pm_vector.specs.Numbers.{InRange}
use Rattle.pm_vector.specs.Rows.{Row, dot, entry}
use Rattle.std.specs.Prelude.{ℕ, take}
use lib.IntN.{◌*ℤ◌}

-- each product of an entry of a and its entry of b, and each sum of the first of these products, is in the range
pub record ProductsStay (a b : Row) : Type 0 where
  pub products : (i : ℕ) → InRange (entry a i *ℤ entry b i)
  pub sums : (k : ℕ) → InRange (dot (take k a) (take k b))
