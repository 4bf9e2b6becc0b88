use Rattle.pm_vector.proofs.Differences.{PartlyWritten}
use Rattle.pm_vector.proofs.combination.write_differences.Given as goal

abbrev pub invariant-loop-i : goal.invariant-loop-i
invariant-loop-i l = PartlyWritten l.p l.fn.v l.q l.fn.w l.i l.v
