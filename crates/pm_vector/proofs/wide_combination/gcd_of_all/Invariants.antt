use Rattle.pm_vector.proofs.wide_combination.gcd_of_all.Given as goal
use Rattle.pm_vector.specs.Divisors.{IsGcdOf}
use Rattle.pm_vector.specs.Magnitudes.{magnitude_of}
use Rattle.pm_vector.specs.WideInts.{value_of}
use Rattle.std.proofs.Common.{map, take}

abbrev pub invariant-loop-number : goal.invariant-loop-number
invariant-loop-number l = IsGcdOf (take l.number-index (map value_of l.numbers)) (magnitude_of l.divisor)
