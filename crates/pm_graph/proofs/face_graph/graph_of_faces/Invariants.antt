use Rattle.pm_bits.specs.Sets.{IsEmpty, has}
use Rattle.pm_graph.proofs.face_graph.graph_of_faces.Given as goal
use Rattle.pm_graph.specs.Edges.{IsPairInRanks}
use Rattle.pm_graph.specs.Tables.{HaveLength}
use Rattle.pm_types.specs.Lists.{lists_of}
use Rattle.std.proofs.Common.{[], length, map, slice_index_or, take, ℕ, ◌<◌, ◌≡◌}
use Rattle.std.specs.List.{All}
use Rattle.std.specs.Prelude.{IsTrue, ◌↔◌}

abbrev pub invariant-loop-node : goal.invariant-loop-node
invariant-loop-node l = record {
  count : length l.rows.items ≡ l._node;
  lengths : HaveLength l.len l.rows.items;
  empty : All IsEmpty l.rows.items;
}

abbrev pub invariant-loop-faces : goal.invariant-loop-faces
invariant-loop-faces l = record {
  count : length l.rows.items ≡ l.len;
  lengths : HaveLength l.len l.rows.items;
  joined : (i j : ℕ) → i < l.len → IsTrue (has (slice_index_or l.rows.items i []) j) ↔ IsPairInRanks l.len (take l.faces-index (map lists_of l.faces-items)) i j;
}
