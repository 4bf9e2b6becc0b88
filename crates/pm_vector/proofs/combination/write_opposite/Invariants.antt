use Rattle.pm_vector.proofs.Opposites.{PartlyOpposite}
use Rattle.pm_vector.proofs.combination.write_opposite.Given as goal

abbrev pub invariant-loop-x : goal.invariant-loop-x
invariant-loop-x l = PartlyOpposite l.fn.v l.x-index l.v
