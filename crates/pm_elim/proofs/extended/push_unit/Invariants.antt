use Rattle.pm_elim.proofs.extended.push_unit.Given as goal
use Rattle.pm_vector.specs.Evidence.{unit}
use Rattle.std.proofs.Common.{take, ◌++◌, ◌≡◌}

abbrev pub invariant-loop-k : goal.invariant-loop-k
invariant-loop-k l = l.row ≡ l.fn.row ++ take l.k (unit l.n l.i)
