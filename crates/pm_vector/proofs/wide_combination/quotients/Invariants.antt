use Rattle.pm_vector.proofs.WrittenQuotients.{FirstQuotients}
use Rattle.pm_vector.proofs.wide_combination.quotients.Given as goal
use Rattle.pm_vector.specs.Magnitudes.{magnitude_of}
use Rattle.pm_vector.specs.WideInts.{value_of}
use Rattle.std.proofs.Common.{map}

abbrev pub invariant-loop-number : goal.invariant-loop-number
invariant-loop-number l = FirstQuotients (map value_of l.numbers) (magnitude_of l.d) l.number-index l.made.items
