-- The sums so far stand below the rows that were there.
use Rattle.pm_build.proofs.summands.put_sums_with.Given as goal
use Rattle.pm_build.specs.Points.{pairs_with}
use Rattle.pm_build.specs.Sums.{AreSumsBelow}
use Rattle.std.proofs.Common.{take, ◌≡◌}

abbrev pub invariant-loop-w : goal.invariant-loop-w
invariant-loop-w l = record {
  below : AreSumsBelow l.fn.rows (pairs_with l.v (take l.w-index l.others)) l.rows;
  cols : l.rows.cols ≡ l.fn.rows.cols;
}
