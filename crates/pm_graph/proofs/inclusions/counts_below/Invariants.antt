use Rattle.pm_graph.proofs.inclusions.counts_below.Given as goal
use Rattle.pm_graph.specs.Counts.{lower_count}
use Rattle.pm_types.specs.Lists.{lists_of}
use Rattle.std.proofs.Common.{map, ◌<◌, ◌^◌, ◌≡◌}
use Rattle.std.specs.List.{All, range_with_len}

abbrev pub invariant-loop-i : goal.invariant-loop-i
invariant-loop-i l = record {
  counts : l.counts.items ≡ map (lower_count (map lists_of l.ranks) l.k) (range_with_len 0 l.i);
  small : All (λ n. n < 2 ^ 126) l.counts.items;
}
