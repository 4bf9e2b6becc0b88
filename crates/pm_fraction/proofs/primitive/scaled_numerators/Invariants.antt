use Rattle.pm_fraction.proofs.Numerators.{NumeratorsSoFar}
use Rattle.pm_fraction.proofs.primitive.scaled_numerators.Given as goal

abbrev pub invariant-loop-i : goal.invariant-loop-i
invariant-loop-i l = NumeratorsSoFar l.row l.m l.i l.numerators
