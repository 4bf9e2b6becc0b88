use Rattle.pm_redund.proofs.levels.direction_of.Given as goal
use Rattle.std.proofs.Common.{length, ◌≡◌}

abbrev pub invariant-loop-i : goal.invariant-loop-i
invariant-loop-i l = length l.made ≡ l.i
