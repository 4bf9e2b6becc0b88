-- The sum is that of the products so far, and these and their sums so far are in the range.
use Rattle.pm_vector.proofs.Products.{SumOfFirst}
use Rattle.pm_vector.proofs.product.dot.Given as goal

abbrev pub invariant-loop-i : goal.invariant-loop-i
invariant-loop-i l = SumOfFirst l.a l.b l.i l.sum
