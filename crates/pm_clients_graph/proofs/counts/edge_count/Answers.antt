use Rattle.pm_clients_graph.proofs.CountTurns.{next_edges}
use Rattle.pm_clients_graph.proofs.EdgeForms.{few_neighbours}
use Rattle.pm_clients_graph.proofs.counts.edge_count.Goals as goal
use Rattle.pm_graph.proofs.Views.{length_view, view_at}
use Rattle.std.proofs.Common.{[], arith, length, map, slice_index_or, subst, ◌<◌, ◌∙◌, ◌≡◌}
use Rattle.std.proofs.lemmas.List.Sums.{count_by-le-length}
use Rattle.std.specs.Prelude.{List, nat_lt, ℕ, ◌≤◌}
use Rattle.pm_limits.specs.Limits.{most_rows}

pub loop-node-preserved : goal.loop-node-preserved
loop-node-preserved c =
    let rows = c.args.graph.now.rows in
    let k = c.loop-node.node in
    let row = c.deref.result.now in
    let count = length_view (λ row. row.items) c.rows-row-items.result.now in
    let all : map (λ row. row.items) c.rows-row-items.result.now ≡ c.args.graph.now.rows = c.rows-row-items.ensures in
    let within : c.loop-node.node < length c.args.graph.now.rows = subst (λ (rs : List (List ℕ)). c.loop-node.node < length rs) all (let t = c.loop-node-test.true in omega arith) in
    let is : c.deref.result.now ≡ slice_index_or c.args.graph.now.rows c.loop-node.node [] =
    c.deref.ensures.value ∙ subst (λ (rs : List (List ℕ)). c.row-item.result.items ≡ slice_index_or rs c.loop-node.node []) all (view_at (λ row. row.items) c.rows-row-items.result.now k c.row-item.result c.loop-node-test.true c.row-item.is) in
    let few : length c.deref.result.now ≤ most_rows = subst (λ (r : List ℕ). length r ≤ most_rows) (let e = is in cc) (few_neighbours rows c.requires.form k [] within) in
    let at_most = count_by-le-length (nat_lt k) row in
    let more = c.later-count.ensures in
    record {
      edges = next_edges rows k c.loop-node.count c.loop-node.invariant.edges c.later-count.result row within is more;
      few = let before = c.loop-node.invariant.few in omega arith;
    }
