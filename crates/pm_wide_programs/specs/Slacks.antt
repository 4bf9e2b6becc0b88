-- The slack of a value at a row, and the greatest value at rays, as slacks show it.
use Rattle.pm_vector.specs.Bases.{row_at}
use Rattle.pm_vector.specs.Numbers.{Ratio}
use Rattle.pm_vector.specs.Rows.{Row, dot, entry}
use Rattle.std.specs.List.{AllByRecursion, AllPairs, Contains}
use Rattle.std.specs.Prelude.{List, length, map, ℕ, ◌<◌, ◌≡◌, ◌↔◌}
use lib.IntN.{pos, ℤ, ◌*ℤ◌, ◌-ℤ◌}
use lib.Signed.{◌<ℤ◌, ◌≤ℤ◌}

-- v x0 - c.x, taken as many times as makes it whole, where w is k times the objective c
abbrev pub slack_of : ℤ → Row → Ratio → Row → ℤ
slack_of k w v x = (v.num *ℤ k) *ℤ entry x 0 -ℤ v.den *ℤ dot w x

-- v is the value at the point x
pub record StandsAt (k : ℤ) (w x : Row) (v : Ratio) : Type 0 where
  pub first : pos 0 <ℤ entry x 0
  pub positive : pos 0 <ℤ v.den
  pub level : slack_of k w v x ≡ pos 0

-- v is the value at one of the rays V, and is exceeded at none
pub record IsGreatestAt (k : ℤ) (w : Row) (V : List Row) (v : Ratio) : Type 0 where
  pub place : ℕ
  pub within : place < length V
  pub stands : StandsAt k w (row_at V place) v
  pub greatest : AllByRecursion (λ x. pos 0 ≤ℤ slack_of k w v x) V

-- along the ray at that place w grows
pub record Rises (w : Row) (V : List Row) (j : ℕ) : Type 0 where
  pub within : j < length V
  pub level : entry (row_at V j) 0 ≡ pos 0
  pub positive : pos 0 <ℤ dot w (row_at V j)

-- along the line at that place w changes
pub record Turns (w : Row) (L : List Row) (j : ℕ) : Type 0 where
  pub within : j < length L
  pub changes : ¬ (dot w (row_at L j) ≡ pos 0)

-- the ray at that place is a point
pub record IsAhead (V : List Row) (j : ℕ) : Type 0 where
  pub within : j < length V
  pub first : pos 0 <ℤ entry (row_at V j) 0

-- the numbers are the places below n, ascending, of the rays V at which the value v stands
pub record AreLevelPlaces (k : ℤ) (w : Row) (v : Ratio) (V : List Row) (n : ℕ) (ks : List ℤ) : Type 0 where
  pub js : List ℕ
  pub places : ks ≡ map pos js
  pub ascending : AllPairs (λ i j. i < j) js
  pub each : (j : ℕ) → Contains js j ↔ ((j < n) × (slack_of k w v (row_at V j) ≡ pos 0))
