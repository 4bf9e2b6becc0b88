use Rattle.pm_optima.proofs.quotients.turning.Given as goal
use Rattle.pm_optima.specs.Quotients.{Turns}
use Rattle.std.proofs.Common.{◌<◌, ℕ}

abbrev pub invariant-loop-j : goal.invariant-loop-j
invariant-loop-j l = (k : ℕ) → k < l.j → ¬ (Turns l.numbers k)
