use Rattle.pm_vector.specs.Rows.{opposite}
use Rattle.pm_vector.specs.Bases.{row_at}
use Rattle.pm_dd.proofs.leading.leading_pairs.Given as goal
use Rattle.std.proofs.Common.{◌*◌, ◌+◌, ◌<◌, ◌≡◌, ℕ}

abbrev pub invariant-loop-i : goal.invariant-loop-i
invariant-loop-i l = (k : ℕ) → k < l.i → row_at l.rows (2 * k + 1) ≡ opposite (row_at l.rows (2 * k))
