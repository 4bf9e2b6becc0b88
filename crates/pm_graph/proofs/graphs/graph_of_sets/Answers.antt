use Rattle.pm_graph.proofs.EdgeReadings.{graph_as, index_edge}
use Rattle.pm_graph.proofs.graphs.graph_of_sets.Goals as goal
use Rattle.pm_graph.specs.Edges.{IsIndexEdge, IsRowEdge}
use Rattle.pm_graph.specs.Tables.{AreColumnsOf}
use Rattle.std.proofs.Common.{ap, length, map, subst, sym}

pub returns-clause-graph : goal.returns-clause-graph
returns-clause-graph c =
    let a = subst (λ sets. AreColumnsOf c.args.s.now.cols sets c.in_ok-columns.columns.items) c.rows.ensures (subst (λ n. AreColumnsOf n (map (λ set. set.items) c.rows.result.now) c.in_ok-columns.columns.items) c.cols.ensures c.in_ok-columns.ensures.columns) in
    let b = subst (λ rows. AreColumnsOf c.args.s.now.cols c.args.s.now.rows rows) (sym (ap (λ t. t.rows) c.in_ok-table.ensures)) a in
    graph_as (length c.in_ok-table.table.rows) c.args.s.now.cols (IsRowEdge c.in_ok-table.table) (IsIndexEdge c.args.s.now) (map (λ row. row.items) c.in_ok-rows.rows.items) c.from_vec.result.rows b.count (sym (ap (λ g. g.rows) c.from_vec.ensures)) (λ i j l. index_edge c.args.s.now c.in_ok-table.table b i j) c.in_ok-rows.ensures
