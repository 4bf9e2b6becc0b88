-- The rows so far, before those that are left.
use Rattle.pm_fan.proofs.rows.cut_rows_with_members.Given as goal
use Rattle.pm_fan.specs.Fans.{cut, with_members}
use Rattle.std.proofs.Common.{drop, map, ◌++◌, ◌≡◌}

abbrev pub invariant-loop-i : goal.invariant-loop-i
invariant-loop-i l = record {
  rows : cut (with_members (map (λ s. s.items) l.sets) l.from.rows) ≡ l.rows.rows ++ cut (with_members (map (λ s. s.items) (drop l.i l.sets)) (drop l.i l.from.rows));
  cols : l.rows.cols ≡ l.n;
}
