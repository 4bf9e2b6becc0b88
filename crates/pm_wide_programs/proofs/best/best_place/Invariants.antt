use Rattle.pm_wide_programs.proofs.best.best_place.Given as goal
use Rattle.std.proofs.Common.{length, ◌<◌}

abbrev pub invariant-loop-j : goal.invariant-loop-j
invariant-loop-j l = l.best < length l.rays
