use Rattle.pm_redund.proofs.shot.least.Given as goal
use Rattle.std.proofs.Common.{IfSome, ◌<◌}

abbrev pub invariant-loop-i : goal.invariant-loop-i
invariant-loop-i l = IfSome l.best (λ k. k < l.i)
