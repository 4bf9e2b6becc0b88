use Rattle.pm_optima.proofs.quotients.greatest_quotient.Given as goal
use Rattle.pm_optima.specs.Quotients.{IsBestOf}

abbrev pub invariant-loop-i : goal.invariant-loop-i
invariant-loop-i l = IsBestOf l.numbers l.rows l.i l.best
