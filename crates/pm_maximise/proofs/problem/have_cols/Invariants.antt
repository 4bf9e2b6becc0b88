-- The rows so far have so many entries.
use Rattle.pm_maximise.proofs.problem.have_cols.Given as goal
use Rattle.std.proofs.Common.{get_or}
use Rattle.std.specs.Prelude.{ℕ, [], length, ◌<◌, ◌≡◌}

abbrev pub invariant-loop-row : goal.invariant-loop-row
invariant-loop-row l = (j : ℕ) → j < l.row-index → length (get_or l.rows j []) ≡ l.cols
