-- A row divided by its greatest common divisor.
use Rattle.pm_vector.specs.Divisors.{IsGcdOf}
use Rattle.pm_vector.specs.Rows.{Row, times}
use Rattle.std.specs.Prelude.{ℕ, ◌≡◌}
use lib.IntN.{pos}

-- v is g times w, for the greatest common divisor g of the entries of v
pub record IsQuotientByGcd (v w : Row) : Type 0 where
  pub g : ℕ
  pub divisor : IsGcdOf v g
  pub multiple : v ≡ times (pos g) w
