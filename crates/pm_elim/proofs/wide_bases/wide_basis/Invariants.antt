use Rattle.pm_elim.proofs.wide_bases.wide_basis.Given as goal
use Rattle.pm_vector.specs.Evidence.{IsBasisOf}
use Rattle.std.proofs.Common.{take}

abbrev pub invariant-loop-i : goal.invariant-loop-i
invariant-loop-i l = IsBasisOf l.cols (take l.i l.rows) l.basis.rows.items l.basis.pivots.items
