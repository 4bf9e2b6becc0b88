use Rattle.pm_vector.proofs.WideSums.{SumOfFirst}
use Rattle.pm_vector.proofs.wide_product.wide_dot.Given as goal
use Rattle.pm_vector.specs.WideInts.{value_of}

abbrev pub invariant-loop-i : goal.invariant-loop-i
invariant-loop-i l = SumOfFirst l.a l.b l.i (value_of l.sum)
