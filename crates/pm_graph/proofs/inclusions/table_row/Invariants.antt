use Rattle.pm_graph.proofs.inclusions.table_row.Given as goal
use Rattle.pm_graph.specs.Counts.{mirrored, whole}
use Rattle.std.proofs.Common.{map, ◌≡◌}
use Rattle.std.specs.List.{range_with_len}

abbrev pub invariant-loop-k : goal.invariant-loop-k
invariant-loop-k l = l.row.items ≡ map (λ k. whole (mirrored (map (λ row. row.items) l.counts) l.i k)) (range_with_len 0 l.k)
