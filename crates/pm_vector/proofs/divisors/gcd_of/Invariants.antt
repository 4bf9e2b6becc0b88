use Rattle.pm_vector.specs.Divisors.{IsGcdOf}
use Rattle.pm_vector.proofs.divisors.gcd_of.Given as goal
use Rattle.std.proofs.Common.{take}

abbrev pub invariant-loop-i : goal.invariant-loop-i
invariant-loop-i l = IsGcdOf (take l.i l.row) l.divisor
