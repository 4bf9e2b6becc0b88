-- The sums so far stand below the rows that were there.
use Rattle.pm_build.proofs.summands.put_sums.Given as goal
use Rattle.pm_build.specs.Points.{pairs}
use Rattle.pm_build.specs.Sums.{AreSumsBelow}
use Rattle.std.proofs.Common.{take, ◌≡◌}

abbrev pub invariant-loop-v : goal.invariant-loop-v
invariant-loop-v l = record {
  below : AreSumsBelow l.fn.rows (pairs (take l.v-index l.points) l.others) l.rows;
  cols : l.rows.cols ≡ l.fn.rows.cols;
}
