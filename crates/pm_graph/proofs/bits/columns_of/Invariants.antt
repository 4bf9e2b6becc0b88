use Rattle.pm_bits.specs.Sets.{IsEmpty}
use Rattle.pm_graph.proofs.bits.columns_of.Given as goal
use Rattle.pm_graph.specs.Tables.{AreColumnsOf, HaveLength}
use Rattle.std.proofs.Common.{length, map, take, ◌≡◌}
use Rattle.std.specs.List.{All}

abbrev pub invariant-loop-index : goal.invariant-loop-index
invariant-loop-index l = record {
  count : length l.rows.items ≡ l._index;
  lengths : HaveLength (length l.sets) l.rows.items;
  empty : All IsEmpty l.rows.items;
}

abbrev pub invariant-loop-place : goal.invariant-loop-place
invariant-loop-place l = record {
  lengths : HaveLength (length l.sets) l.rows.items;
  columns : AreColumnsOf l.len (take l.place (map (λ set. set.items) l.sets)) l.rows.items;
}
