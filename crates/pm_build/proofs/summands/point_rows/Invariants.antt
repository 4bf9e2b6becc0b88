-- The points so far, before those that are left.
use Rattle.pm_build.proofs.summands.point_rows.Given as goal
use Rattle.pm_build.specs.Points.{points}
use Rattle.std.proofs.Common.{drop, ◌++◌, ◌≡◌}

abbrev pub invariant-loop-i : goal.invariant-loop-i
invariant-loop-i l = record {
  rows : points l.from.rows ≡ l.rows.rows ++ points (drop l.i l.from.rows);
  cols : l.rows.cols ≡ l.from.cols;
}
