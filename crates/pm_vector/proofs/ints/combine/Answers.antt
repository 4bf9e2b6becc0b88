use Rattle.std.proofs.Common.{refl}
use Rattle.pm_vector.proofs.ints.combine.Goals as goal

pub returns-then-not-difference_stays-clause-unchanged : goal.returns-then-not-difference_stays-clause-unchanged
returns-then-not-difference_stays-clause-unchanged c = refl
