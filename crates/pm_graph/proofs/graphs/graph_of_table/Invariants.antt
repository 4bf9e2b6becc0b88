use Rattle.pm_graph.proofs.graphs.graph_of_table.Given as goal
use Rattle.pm_graph.specs.Edges.{AreRowNeighbours}
use Rattle.std.proofs.Common.{[], length, map, slice_index_or, ℕ, ◌<◌, ◌≡◌}

abbrev pub invariant-loop-i : goal.invariant-loop-i
invariant-loop-i l = record {
  meet_len : length l.meet ≡ l.table.row_len;
  count : length l.rows.items ≡ l.i;
  lists : (k : ℕ) → k < l.i → AreRowNeighbours l.table k (length l.table.rows) (slice_index_or (map (λ row. row.items) l.rows.items) k []);
}
