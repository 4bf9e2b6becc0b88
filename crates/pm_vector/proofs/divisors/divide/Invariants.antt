use Rattle.pm_vector.proofs.QuotientLaws.{partly_divided}
use Rattle.pm_vector.proofs.divisors.divide.Given as goal
use Rattle.std.proofs.Common.{◌≡◌}

abbrev pub invariant-loop-x : goal.invariant-loop-x
invariant-loop-x l = l.row ≡ partly_divided l.fn.row l.d l.x-index
