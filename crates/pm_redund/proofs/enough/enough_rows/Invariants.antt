use Rattle.pm_vector.specs.Bases.{row_at}
use Rattle.pm_vector.specs.Cones.{InCone}
use Rattle.pm_geom.specs.StatedOrder.{rows_marked}
use Rattle.pm_redund.proofs.enough.enough_rows.Given as goal
use Rattle.pm_redund.specs.Keeping.{IsPartly}
use Rattle.std.proofs.Common.{true, ℕ, ◌<◌}

abbrev pub invariant-loop-i : goal.invariant-loop-i
invariant-loop-i l = record {
  partly : IsPartly l.rows l.lines l.enough;
  each : (k : ℕ) → k < l.i → InCone (rows_marked true l.enough.chosen.marks.items l.rows) l.lines (row_at l.rows k);
}
