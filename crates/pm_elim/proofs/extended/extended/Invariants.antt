use Rattle.pm_vector.specs.Bases.{row_at}
use Rattle.pm_elim.proofs.extended.extended.Given as goal
use Rattle.pm_vector.specs.Evidence.{column_of, unit}
use Rattle.std.proofs.Common.{length, ◌++◌, ◌<◌, ◌≡◌, ℕ}

abbrev pub invariant-loop-i : goal.invariant-loop-i
invariant-loop-i l = record {
  as_many : length l.made.items ≡ l.i;
  rows : (j : ℕ) → j < l.i → row_at l.made.items j ≡ column_of l.rows j ++ unit l.cols j;
}
