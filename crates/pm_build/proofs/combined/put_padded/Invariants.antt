-- The rows so far stand below those that were there.
use Rattle.pm_build.proofs.combined.put_padded.Given as goal
use Rattle.pm_build.specs.Objects.{padded}
use Rattle.std.proofs.Common.{map, take, ◌++◌, ◌≡◌}

abbrev pub invariant-loop-i : goal.invariant-loop-i
invariant-loop-i l = record {
  rows : l.rows.rows ≡ l.fn.rows.rows ++ map (padded l.k) (take l.i l.from.rows);
  cols : l.rows.cols ≡ l.fn.rows.cols;
}
