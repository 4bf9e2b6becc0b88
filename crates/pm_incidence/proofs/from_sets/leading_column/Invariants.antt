use Rattle.pm_vector.specs.Rows.{entry}
use Rattle.pm_incidence.proofs.from_sets.leading_column.Given as goal
use Rattle.std.proofs.Common.{pos, ◌<◌, ◌≡◌, ℕ}

abbrev pub invariant-loop-i : goal.invariant-loop-i
invariant-loop-i l = (c : ℕ) → c < l.i → entry l.row c ≡ pos 0
