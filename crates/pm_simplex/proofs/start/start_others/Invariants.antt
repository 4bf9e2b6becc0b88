use Rattle.pm_vector.specs.Bases.{column}
use Rattle.pm_simplex.proofs.start.start_others.Given as goal
use Rattle.std.proofs.Common.{length, ℕ, ◌<◌, ◌≡◌}

abbrev pub invariant-loop-k : goal.invariant-loop-k
invariant-loop-k l = record {
  count : length l.others.items ≡ l.k;
  own : (k : ℕ) → k < l.k → column l.others.items k ≡ k;
}
