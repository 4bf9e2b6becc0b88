use Rattle.pm_graph.proofs.Neighbours.{graph_from_lists, lists_more}
use Rattle.pm_graph.proofs.Views.{length_view}
use Rattle.pm_graph.proofs.graphs.graph_of_table.Goals as goal
use Rattle.pm_graph.specs.Edges.{AreRowNeighbours}
use Rattle.std.proofs.Common.{[], arith, length, map, refl, rules, slice_index_or, subst, ℕ, ◌<◌, ◌≡◌, ◌∙◌}

pub loop-i-preserved : goal.loop-i-preserved
loop-i-preserved c = record {
  meet_len = c.neighbours.ensures.meet_len;
  count = search rules;
  lists = lists_more (λ row. row.items) c.args.table.now (length c.args.table.now.rows) c.loop-i.i c.loop-i.rows.items c.push.new.self.items c.in_ok-neighbours.field-0 c.loop-i.invariant.count c.in_ok-push.ensures.items c.in_ok-neighbours.ensures.neighbours c.loop-i.invariant.lists;
}

pub returns : goal.returns
returns c =
    let n : c.loop-i.i ≡ length c.args.table.now.rows = omega arith in
    graph_from_lists c.args.table.now (length c.args.table.now.rows) (map (λ row. row.items) c.loop-i.rows.items) refl (length_view (λ row. row.items) c.loop-i.rows.items ∙ c.loop-i.invariant.count ∙ n)
    (subst (λ m. (k : ℕ) → k < m → AreRowNeighbours c.args.table.now k (length c.args.table.now.rows) (slice_index_or (map (λ row. row.items) c.loop-i.rows.items) k [])) n c.loop-i.invariant.lists)
