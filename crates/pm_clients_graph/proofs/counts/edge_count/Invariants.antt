-- The edges of the nodes that are left are as many as are missing.
use Rattle.pm_clients_graph.proofs.counts.edge_count.Given as goal
use Rattle.pm_geom.specs.Graphs.{edge_count, edge_count_from}
use Rattle.std.proofs.Common.{drop, ◌*◌, ◌+◌, ◌≡◌, ◌≤◌}
use Rattle.pm_limits.specs.Limits.{most_rows}

abbrev pub invariant-loop-node : goal.invariant-loop-node
invariant-loop-node l = record {
  edges : edge_count l.graph.rows ≡ l.count + edge_count_from l.node (drop l.node l.graph.rows);
  few : l.count ≤ l.node * most_rows;
}
