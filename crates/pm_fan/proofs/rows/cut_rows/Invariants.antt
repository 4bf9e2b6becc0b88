-- The rows so far, without their first coordinate.
use Rattle.pm_fan.proofs.rows.cut_rows.Given as goal
use Rattle.pm_fan.specs.Fans.{cut}
use Rattle.std.proofs.Common.{take, ◌≡◌}

abbrev pub invariant-loop-place : goal.invariant-loop-place
invariant-loop-place l = record {
  rows : l.rows.rows ≡ cut (take l.place l.from.rows);
  cols : l.rows.cols ≡ l.n;
}
