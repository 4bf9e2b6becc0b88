-- the columns so far
use Rattle.pm_incidence.proofs.from_sets.turned_sets.Given as goal
use Rattle.pm_incidence.specs.FromSets.{holders_from}
use Rattle.std.proofs.Common.{map, ◌≡◌}
use Rattle.std.specs.List.{range_with_len}

abbrev pub invariant-loop-column : goal.invariant-loop-column
invariant-loop-column l = map (λ r. r.items) l.columns.items ≡ map (holders_from 0 l.s.rows) (range_with_len 0 l.column)
