-- The far rows so far, before those that are left.
use Rattle.pm_build.proofs.summands.put_far.Given as goal
use Rattle.pm_build.specs.Points.{far}
use Rattle.std.proofs.Common.{drop, ◌++◌, ◌≡◌}

abbrev pub invariant-loop-i : goal.invariant-loop-i
invariant-loop-i l = record {
  rows : l.fn.rows.rows ++ far l.from.rows ≡ l.rows.rows ++ far (drop l.i l.from.rows);
  cols : l.rows.cols ≡ l.fn.rows.cols;
}
