use Rattle.pm_vector.specs.Bases.{row_at}
use Rattle.pm_wide_programs.proofs.best.none_exceeds.Given as goal
use Rattle.pm_wide_programs.specs.Slacks.{slack_of}
use Rattle.std.proofs.Common.{pos, ℕ, ◌<◌}
use lib.Signed.{◌≤ℤ◌}

abbrev pub invariant-loop-i : goal.invariant-loop-i
invariant-loop-i l = (k : ℕ) → k < l.i → pos 0 ≤ℤ slack_of l.objective.times l.objective.row l.value (row_at l.rays k)
