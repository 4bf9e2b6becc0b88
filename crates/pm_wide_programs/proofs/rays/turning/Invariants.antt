use Rattle.pm_vector.specs.Bases.{row_at}
use Rattle.pm_vector.specs.Rows.{dot}
use Rattle.pm_wide_programs.proofs.rays.turning.Given as goal
use Rattle.std.proofs.Common.{pos, ℕ, ◌<◌, ◌≡◌}

abbrev pub invariant-loop-j : goal.invariant-loop-j
invariant-loop-j l = (k : ℕ) → k < l.j → dot l.row (row_at l.lines k) ≡ pos 0
