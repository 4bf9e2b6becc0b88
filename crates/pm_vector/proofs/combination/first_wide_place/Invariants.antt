use Rattle.pm_vector.proofs.Differences.{FirstStay}
use Rattle.pm_vector.proofs.combination.first_wide_place.Given as goal

abbrev pub invariant-loop-i : goal.invariant-loop-i
invariant-loop-i l = FirstStay l.p l.v l.q l.w l.i
