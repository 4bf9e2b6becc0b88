use Rattle.pm_vector.specs.Bases.{column}
use Rattle.pm_simplex.proofs.start.start_basis.Given as goal
use Rattle.pm_simplex.specs.Starts.{own_column}
use Rattle.std.proofs.Common.{length, ℕ, ◌<◌, ◌≡◌}

abbrev pub invariant-loop-i : goal.invariant-loop-i
invariant-loop-i l = record {
  count : length l.basis.items ≡ l.i;
  own : (k : ℕ) → k < l.i → column l.basis.items k ≡ own_column l.y k;
}
