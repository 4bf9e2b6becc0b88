use Rattle.pm_vector.specs.Bases.{row_at}
use Rattle.pm_vector.specs.Cones.{InCone}
use Rattle.pm_vector.specs.Rows.{opposite}
use Rattle.pm_redund.proofs.support.lineality_of.Given as goal
use Rattle.pm_redund.specs.Keeping.{IsSupport}
use Rattle.std.proofs.Common.{IfSome, IsTrue, false, get_or, length, ℕ, ◌<◌, ◌↔◌, ◌≡◌}

abbrev pub invariant-loop-i : goal.invariant-loop-i
invariant-loop-i l = record {
  many : length l.marks.items ≡ l.i;
  each : (k : ℕ) → k < l.i → IsTrue (get_or l.marks.items k false) ↔ InCone l.rows l.lines (opposite (row_at l.rows k));
  support : IfSome l.support (IsSupport l.cols l.rows l.lines);
}
