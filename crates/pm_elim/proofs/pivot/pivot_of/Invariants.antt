use Rattle.pm_vector.specs.Rows.{entry}
use Rattle.pm_elim.proofs.pivot.pivot_of.Given as goal
use Rattle.std.proofs.Common.{pos, ◌<◌, ◌≡◌, ℕ}

abbrev pub invariant-loop-i : goal.invariant-loop-i
invariant-loop-i l = (d : ℕ) → d < l.i → entry l.row d ≡ pos 0
