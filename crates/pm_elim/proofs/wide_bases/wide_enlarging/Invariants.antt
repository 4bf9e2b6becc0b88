use Rattle.pm_elim.proofs.EnlargingLaws.{MarkSoFar}
use Rattle.pm_elim.proofs.wide_bases.wide_enlarging.Given as goal
use Rattle.pm_vector.specs.Evidence.{IsBasisOf}
use Rattle.std.proofs.Common.{take}

abbrev pub invariant-loop-i : goal.invariant-loop-i
invariant-loop-i l = record {
  so_far : IsBasisOf l.cols (take l.i l.rows) l.basis.rows.items l.basis.pivots.items;
  marks : MarkSoFar l.rows l.i l.marks.items;
}
