-- Rows whose products fit 64 bits.
use Rattle.pm_vector.specs.Rows.{Row}
use Rattle.std.specs.Prelude.{All, length, unsigned_abs, ◌<◌, ◌≤◌, ◌^◌}
use lib.IntN.{ℤ}

-- z is below 2^28 in absolute value
abbrev pub IsLittle : ℤ → Type 0
IsLittle z = unsigned_abs z < 2 ^ 28

-- a row of at most 64 entries, each below 2^28 in absolute value
pub record IsShort (x : Row) : Type 0 where
  pub few : length x ≤ 64
  pub little : All IsLittle x
