use Rattle.pm_wide_programs.proofs.rays.ahead.Given as goal
use Rattle.pm_wide_programs.specs.Slacks.{IsAhead}
use Rattle.std.proofs.Common.{ℕ, ◌<◌}

abbrev pub invariant-loop-j : goal.invariant-loop-j
invariant-loop-j l = (k : ℕ) → k < l.j → ¬ (IsAhead l.rays k)
