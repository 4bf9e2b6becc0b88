use Rattle.pm_vector.specs.Rows.{entry}
use Rattle.pm_dual.proofs.search_objectives.is_constant.Given as goal
use Rattle.std.proofs.Common.{pos, ℕ, ◌<◌, ◌≡◌, ◌≤◌}

abbrev pub invariant-loop-i : goal.invariant-loop-i
invariant-loop-i l = (k : ℕ) → 1 ≤ k → k < l.i → entry l.row k ≡ pos 0
