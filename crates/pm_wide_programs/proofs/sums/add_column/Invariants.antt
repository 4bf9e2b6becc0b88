use Rattle.pm_vector.specs.Cones.{combination}
use Rattle.pm_vector.specs.Rows.{entry}
use Rattle.pm_vector.specs.WideInts.{value_of}
use Rattle.pm_wide_programs.proofs.sums.add_column.Given as goal
use Rattle.pm_wide_programs.specs.Values.{values}
use Rattle.std.proofs.Common.{drop, ◌++◌, ◌≡◌}
use lib.IntN.{◌+ℤ◌}

abbrev pub invariant-loop-i : goal.invariant-loop-i
invariant-loop-i l =
    value_of l.sum +ℤ entry (combination (drop l.i (values l.multipliers)) (drop l.i (l.inequalities ++ l.equations))) l.j
    ≡ value_of l.fn.start +ℤ entry (combination (values l.multipliers) (l.inequalities ++ l.equations)) l.j
