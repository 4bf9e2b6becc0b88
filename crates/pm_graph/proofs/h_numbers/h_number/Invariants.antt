use Rattle.pm_graph.proofs.HNumbers.{IsSumTo}
use Rattle.pm_graph.proofs.h_numbers.h_number.Given as goal

abbrev pub invariant-loop-i : goal.invariant-loop-i
invariant-loop-i l = IsSumTo l.f l.d l.k l.i l.sum
