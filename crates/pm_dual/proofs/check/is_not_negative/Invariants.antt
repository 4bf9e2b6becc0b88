use Rattle.pm_vector.specs.Rows.{entry}
use Rattle.pm_dual.proofs.check.is_not_negative.Given as goal
use Rattle.std.proofs.Common.{pos, ℕ, ◌<◌}
use lib.Signed.{◌≤ℤ◌}

abbrev pub invariant-loop-i : goal.invariant-loop-i
invariant-loop-i l = (k : ℕ) → k < l.i → pos 0 ≤ℤ entry l.numbers k
