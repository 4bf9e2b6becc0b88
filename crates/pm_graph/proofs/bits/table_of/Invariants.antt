use Rattle.pm_graph.proofs.bits.table_of.Given as goal
use Rattle.pm_graph.specs.Tables.{IsTableOf}
use Rattle.std.proofs.Common.{map, take, ◌≡◌}

abbrev pub invariant-loop-set : goal.invariant-loop-set
invariant-loop-set l = record {
  len : l.table.row_len ≡ l.len;
  rows : IsTableOf (take l.set-index (map (λ set. set.items) l.sets)) l.table;
}
