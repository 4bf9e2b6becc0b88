-- the unit rows of the columns that are left follow
use Rattle.pm_vector.specs.Evidence.{unit}
use Rattle.pm_incidence.proofs.from_sets.add_units.Given as goal
use Rattle.std.proofs.Common.{drop, map, ◌++◌, ◌≡◌}

abbrev pub invariant-loop-column : goal.invariant-loop-column
invariant-loop-column l = l.made.items ++ map (unit l.cols) (drop l.column-index l.columns) ≡ l.fn.others.items ++ map (unit l.cols) l.columns
