-- Whole rows divided by one number.
use Rattle.pm_vector.specs.Numbers.{Ratio}
use Rattle.pm_vector.specs.Rows.{Row, entry, ratio_at}
use Rattle.pm_fraction.specs.Fractions.{IsLowestTermsOf, ratio_of}
use Rattle.std.specs.Prelude.{List, length, ℕ, ◌<◌, ◌≡◌}
use lib.IntN.{ℤ}

-- v has the entries of x over d, in lowest terms
pub record AreQuotients (x : Row) (d : ℤ) (v : List Ratio) : Type 0 where
  pub count : length v ≡ length x
  pub each : (i : ℕ) → i < length x → IsLowestTermsOf (ratio_of (entry x i) d) (ratio_at v i)
