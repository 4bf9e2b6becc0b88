-- The same rows in another order.
use Rattle.std.specs.Prelude.{List, ◌↔◌}
use Rattle.std.specs.List.{Contains}
use Rattle.pm_vector.specs.Rows.{Row}

-- a row stands in the one list where it stands in the other
pub record HaveSameRows (X Y : List Row) : Type 0 where
  pub same : (x : Row) → Contains X x ↔ Contains Y x
