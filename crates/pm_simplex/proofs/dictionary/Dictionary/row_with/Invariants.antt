use Rattle.pm_vector.specs.Bases.{column}
use Rattle.pm_simplex.proofs.dictionary.Dictionary.row_with.Given as goal
use Rattle.std.proofs.Common.{ℕ, ◌<◌, ◌≡◌}

abbrev pub invariant-loop-i : goal.invariant-loop-i
invariant-loop-i l = (k : ℕ) → k < l.i → column l.self.basis.items k ≡ l.c → ⊥
