use Rattle.pm_optima.proofs.quotients.rising.Given as goal
use Rattle.pm_optima.specs.Quotients.{Rises}
use Rattle.std.proofs.Common.{◌<◌, ℕ}

abbrev pub invariant-loop-j : goal.invariant-loop-j
invariant-loop-j l = (k : ℕ) → k < l.j → ¬ (Rises l.numbers l.rows k)
