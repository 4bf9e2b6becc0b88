use Rattle.pm_vector.specs.Evidence.{unit}
use Rattle.pm_incidence.proofs.by_incidence.unit_rows.Given as goal
use Rattle.std.proofs.Common.{map, ◌≡◌}
use Rattle.std.specs.List.{range_with_len}

abbrev pub invariant-loop-column : goal.invariant-loop-column
invariant-loop-column l = l.made.items ≡ map (unit l.cols) (range_with_len 0 l.column)
