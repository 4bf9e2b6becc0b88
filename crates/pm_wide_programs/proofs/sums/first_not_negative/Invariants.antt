use Rattle.pm_vector.specs.Rows.{entry}
use Rattle.pm_wide_programs.proofs.sums.first_not_negative.Given as goal
use Rattle.pm_wide_programs.specs.Values.{values}
use Rattle.std.proofs.Common.{pos, ℕ, ◌<◌}
use lib.Signed.{◌≤ℤ◌}

abbrev pub invariant-loop-i : goal.invariant-loop-i
invariant-loop-i l = (k : ℕ) → k < l.i → pos 0 ≤ℤ entry (values l.numbers) k
