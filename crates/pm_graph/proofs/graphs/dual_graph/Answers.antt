use Rattle.pm_graph.proofs.EdgeReadings.{graph_as, set_edge}
use Rattle.pm_graph.proofs.graphs.dual_graph.Goals as goal
use Rattle.pm_graph.specs.Edges.{IsRowEdge, IsSetEdge}
use Rattle.pm_graph.specs.Tables.{IsTableOf}
use Rattle.std.proofs.Common.{ap, length, map, subst, sym}

pub returns-clause-graph : goal.returns-clause-graph
returns-clause-graph c =
    let t = subst (λ sets. IsTableOf sets c.in_ok-table.table) c.rows.ensures c.in_ok-table.ensures.rows in
    graph_as (length c.in_ok-table.table.rows) (length c.args.s.now.rows) (IsRowEdge c.in_ok-table.table) (IsSetEdge c.args.s.now.rows) (map (λ row. row.items) c.in_ok-rows.rows.items) c.from_vec.result.rows t.count (sym (ap (λ g. g.rows) c.from_vec.ensures)) (λ i j l. set_edge c.args.s.now.rows c.in_ok-table.table t i j) c.in_ok-rows.ensures
