use Rattle.pm_graph.proofs.inclusions.all_counts.Given as goal
use Rattle.pm_graph.specs.Counts.{lower_counts}
use Rattle.pm_types.specs.Lists.{lists_of}
use Rattle.std.proofs.Common.{map, ◌<◌, ◌^◌, ◌≡◌}
use Rattle.std.specs.List.{All, range_with_len}

abbrev pub invariant-loop-k : goal.invariant-loop-k
invariant-loop-k l = record {
  counts : map (λ row. row.items) l.rows.items ≡ map (lower_counts (map lists_of l.ranks)) (range_with_len 0 l.k);
  small : All (All (λ n. n < 2 ^ 126)) (map (λ row. row.items) l.rows.items);
}
