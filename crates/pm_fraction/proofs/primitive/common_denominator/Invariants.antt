use Rattle.pm_fraction.proofs.Denominators.{DenominatorSoFar}
use Rattle.pm_fraction.proofs.primitive.common_denominator.Given as goal

abbrev pub invariant-loop-i : goal.invariant-loop-i
invariant-loop-i l = DenominatorSoFar l.row l.i l.least
