use Rattle.pm_vector.specs.Rows.{entry}
use Rattle.pm_optima.proofs.objective.scale.Given as goal
use Rattle.std.proofs.Common.{pos, ◌<◌, ◌≡◌, ℕ}

abbrev pub invariant-loop-i : goal.invariant-loop-i
invariant-loop-i l = (k : ℕ) → k < l.i → entry l.row k ≡ pos 0
