-- Rows divided by their first entry.
use Rattle.pm_vector.specs.Numbers.{Ratio}
use Rattle.pm_vector.specs.Rows.{Row, entry, ratio_at}
use Rattle.pm_fraction.specs.Fractions.{IsLowestTermsOf, ratio_of}
use Rattle.std.specs.Prelude.{List, length, ℕ, ◌<◌, ◌≡◌}

-- r is the row x divided by its first entry, in lowest terms
pub record IsOverFirst (x : Row) (r : List Ratio) : Type 0 where
  pub cols : length r ≡ length x
  pub each : (i : ℕ) → i < length x → IsLowestTermsOf (ratio_of (entry x i) (entry x 0)) (ratio_at r i)
