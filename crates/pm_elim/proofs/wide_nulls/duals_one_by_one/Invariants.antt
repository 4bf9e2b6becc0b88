use Rattle.pm_vector.specs.Bases.{row_at}
use Rattle.pm_elim.proofs.wide_nulls.duals_one_by_one.Given as goal
use Rattle.pm_elim.specs.Duals.{IsDualRow}
use Rattle.std.proofs.Common.{length, ◌<◌, ◌≡◌, ℕ}

abbrev pub invariant-loop-j : goal.invariant-loop-j
invariant-loop-j l = record {
  as_many : length l.duals.items ≡ l.j;
  each : (i : ℕ) → i < l.j → IsDualRow l.cols l.rows l.null.pivots.items i (row_at l.duals.items i);
}
