use Rattle.pm_elim.proofs.BasisLaws.{BasisSoFar}
use Rattle.pm_elim.proofs.EnlargingLaws.{MarkSoFar}
use Rattle.pm_elim.proofs.marks.enlarging.Given as goal
use Rattle.std.proofs.Common.{vec_len, ◌≤◌}

abbrev pub invariant-loop-i : goal.invariant-loop-i
invariant-loop-i l = record {
  so_far : BasisSoFar l.cols l.rows l.i l.basis.rows.items l.basis.pivots.items;
  count : vec_len l.basis.rows ≤ l.i;
  marks : MarkSoFar l.rows l.i l.marks.items;
}
