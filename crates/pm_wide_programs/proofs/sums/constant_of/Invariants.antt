use Rattle.pm_vector.specs.Cones.{combination}
use Rattle.pm_vector.specs.Rows.{entry, plus, times}
use Rattle.pm_vector.specs.WideInts.{value_of}
use Rattle.pm_wide_programs.proofs.sums.constant_of.Given as goal
use Rattle.pm_wide_programs.specs.Values.{values}
use Rattle.std.proofs.Common.{pos, ℕ, ◌++◌, ◌<◌, ◌≡◌, ◌≤◌}

abbrev pub invariant-loop-j : goal.invariant-loop-j
invariant-loop-j l = (k : ℕ) → 1 ≤ k → k < l.j
    → entry (plus (times (value_of l.scale) l.row) (combination (values l.multipliers) (l.inequalities ++ l.equations))) k ≡ pos 0
