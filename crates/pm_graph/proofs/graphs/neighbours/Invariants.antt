use Rattle.pm_graph.proofs.graphs.neighbours.Given as goal
use Rattle.pm_graph.specs.Edges.{AreRowNeighbours}
use Rattle.std.proofs.Common.{length, ◌≡◌}

abbrev pub invariant-loop-k : goal.invariant-loop-k
invariant-loop-k l = record {
  meet_len : length l.meet ≡ l.table.row_len;
  list : AreRowNeighbours l.table l.i l.k l.list.items;
}
