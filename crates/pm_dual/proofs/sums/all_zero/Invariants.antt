use Rattle.pm_vector.specs.Rows.{dot}
use Rattle.pm_vector.specs.Bases.{row_at}
use Rattle.pm_dual.proofs.sums.all_zero.Given as goal
use Rattle.std.proofs.Common.{pos, ℕ, ◌<◌, ◌≡◌}

abbrev pub invariant-loop-i : goal.invariant-loop-i
invariant-loop-i l = (k : ℕ) → k < l.i → dot (row_at l.rows k) l.x ≡ pos 0
