use Rattle.std.proofs.Common.{arith, length, map, subst, sym, true, ◌∙◌, ◌≡◌, ◌≤◌, ◌+◌}
use Rattle.std.proofs.lemmas.List.{length-map}
use Rattle.serde_json.specs.View.{items_view}
use Rattle.pm_types.specs.Forms.{are_joined_back, is_formed}
use Rattle.pm_types.specs.Values.{edges}
use Rattle.pm_json.proofs.EdgeLimits.{edges_have_form, nodes_keep_limits, nodes_within}
use Rattle.pm_json.specs.Readings.{above_sets}
use Rattle.pm_json.proofs.edges.read_edges.Goals as goal
use Rattle.pm_limits.specs.Limits.{most_rows}

pub are_joined_back-requires-clause-few : goal.are_joined_back-requires-clause-few
are_joined_back-requires-clause-few c =
    let rows = map (λ r. r.items) c.in_ok-rows.rows.items in
    let few : 0 + length rows ≤ most_rows = (nodes_keep_limits 0 (items_view c.in_ok-items.items.now) rows (omega arith) c.in_ok-rows.ensures.ok).few in
    let long = length-map c.in_ok-rows.rows.items (λ r. r.items) in
    rw c.deref-2.ensures.value (omega (arith, few, long))

pub are_joined_back-requires-clause-nodes : goal.are_joined_back-requires-clause-nodes
are_joined_back-requires-clause-nodes c =
    let xs = c.in_ok-rows.rows.items in
    let kept = nodes_keep_limits 0 (items_view c.in_ok-items.items.now) (map (λ r. r.items) xs) (omega arith) c.in_ok-rows.ensures.ok in
    let is = rw c.deref.ensures.value at c.above_sets.ensures in
    let above : above_sets (map (λ r. r.items) xs) ≤ length xs = omega (arith, is, c.if-above_sets-len.false, c.len.ensures, c.in_ok-rows.rows.ok) in
    rw c.deref-2.ensures.value (nodes_within (λ r. r.items) (length xs) xs above kept.indices)

pub overflow_cast-nodes : goal.overflow_cast-nodes
overflow_cast-nodes c =
    let rows = map (λ r. r.items) c.in_ok-rows.rows.items in
    let few : 0 + length rows ≤ most_rows = (nodes_keep_limits 0 (items_view c.in_ok-items.items.now) rows (omega arith) c.in_ok-rows.ensures.ok).few in
    let long = length-map c.in_ok-rows.rows.items (λ r. r.items) in
    omega (arith, few, long, c.len-nodes.ensures, c.in_ok-rows.rows.ok)

pub returns-clause-formed : goal.returns-clause-formed
returns-clause-formed c =
    let xs = c.in_ok-rows.rows.items in
    let rows = map (λ r. r.items) xs in
    let kept = nodes_keep_limits 0 (items_view c.in_ok-items.items.now) rows (omega arith) c.in_ok-rows.ensures.ok in
    let few : 0 + length rows ≤ most_rows = kept.few in
    let long = length-map xs (λ r. r.items) in
    let is = rw c.deref.ensures.value at c.above_sets.ensures in
    let above : above_sets rows ≤ length rows = omega (arith, is, long, c.if-above_sets-len.false, c.len.ensures, c.in_ok-rows.rows.ok) in
    let joined : are_joined_back rows 0 rows ≡ true = sym (rw c.deref-2.ensures.value at c.are_joined_back.ensures) ∙ c.if-not-are_joined_back.false in
    let nodes : c.len-nodes.result ≡ length rows = omega (arith, long, c.len-nodes.ensures, c.in_ok-rows.rows.ok) in
    rw c.from_vec.ensures (subst (λ n. is_formed c.args.p (edges rows n) ≡ true) (sym nodes) (edges_have_form c.args.p rows c.requires (omega arith) above kept.indices joined))
