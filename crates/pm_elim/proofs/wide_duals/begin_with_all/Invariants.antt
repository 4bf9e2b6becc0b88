use Rattle.pm_vector.specs.Bases.{column}
use Rattle.pm_elim.proofs.wide_duals.begin_with_all.Given as goal
use Rattle.std.proofs.Common.{length, ◌<◌, ◌≡◌, ℕ}

abbrev pub invariant-loop-i : goal.invariant-loop-i
invariant-loop-i l = (k : ℕ) → k < l.i → (k < length l.columns) × (column l.columns k ≡ k)
