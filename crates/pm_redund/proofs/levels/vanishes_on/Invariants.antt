use Rattle.pm_vector.specs.Bases.{row_at}
use Rattle.pm_vector.specs.Rows.{dot}
use Rattle.pm_redund.proofs.levels.vanishes_on.Given as goal
use Rattle.std.proofs.Common.{pos, ℕ, ◌<◌, ◌≡◌}

abbrev pub invariant-loop-line : goal.invariant-loop-line
invariant-loop-line l = (k : ℕ) → k < l.line-index → dot l.row (row_at l.lines k) ≡ pos 0
