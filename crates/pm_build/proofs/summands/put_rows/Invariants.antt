-- The rows so far stand below those that were there.
use Rattle.pm_build.proofs.summands.put_rows.Given as goal
use Rattle.std.proofs.Common.{take, ◌++◌, ◌≡◌}

abbrev pub invariant-loop-i : goal.invariant-loop-i
invariant-loop-i l = record {
  rows : l.rows.rows ≡ l.fn.rows.rows ++ take l.i l.from.rows;
  cols : l.rows.cols ≡ l.fn.rows.cols;
}
