-- The points and the far rows that are left.
use Rattle.pm_build.proofs.summands.count_points.Given as goal
use Rattle.pm_build.specs.Points.{far, points}
use Rattle.std.proofs.Common.{drop, length, ◌+◌, ◌≡◌, ◌≤◌}

abbrev pub invariant-loop-i : goal.invariant-loop-i
invariant-loop-i l = record {
  value : length (points l.matrix.rows) ≡ l.count + length (points (drop l.i l.matrix.rows));
  others : length (far l.matrix.rows) + l.count ≡ l.i + length (far (drop l.i l.matrix.rows));
  few : l.count ≤ l.i;
}
