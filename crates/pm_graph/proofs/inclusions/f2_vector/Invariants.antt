use Rattle.pm_graph.proofs.inclusions.f2_vector.Given as goal
use Rattle.pm_graph.specs.Counts.{mirrored, whole}
use Rattle.std.proofs.Common.{map, ◌≡◌}
use Rattle.std.specs.List.{range_with_len}

abbrev pub invariant-loop-i : goal.invariant-loop-i
invariant-loop-i l = record {
  cols : l.matrix.cols ≡ l.i-end;
  rows : l.matrix.rows ≡ map (λ i. map (λ k. whole (mirrored (map (λ row. row.items) l.counts.items) i k)) (range_with_len 0 l.i-end)) (range_with_len 0 l.i);
}
