-- The rows of the first i points.
use Rattle.pm_build.proofs.shapes.curve_rows.Given as goal
use Rattle.pm_build.specs.Rows.{curve_points, headed_rows}
use Rattle.std.proofs.Common.{suc, ◌≡◌}

abbrev pub invariant-loop-i : goal.invariant-loop-i
invariant-loop-i l = record {
  rows : l.rows.rows ≡ headed_rows (curve_points l.d l.i);
  cols : l.rows.cols ≡ suc l.d;
}
