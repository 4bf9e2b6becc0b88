use Rattle.pm_graph.proofs.Marks.{all_leveled, ended, leveled, taken_some}
use Rattle.pm_graph.proofs.Views.{length_view, slice_below, view_at}
use Rattle.pm_graph.proofs.distances.next_level.Goals as goal
use Rattle.pm_graph.specs.Levels.{AreBelow}
use Rattle.std.proofs.Common.{arith, get_or, length, map, subst, sym, ◌<◌, ◌≡◌, ◌∙◌}
use Rattle.std.proofs.lemmas.List.{get_or_default}

pub returns-then-len-left-clause-marks : goal.returns-then-len-left-clause-marks
returns-then-len-left-clause-marks c =
    let n = length_view (λ row. row.items) c.args.rows.now in
    (ended (map (λ row. row.items) c.args.rows.now) c.args.front.now c.args.seen.now c.loop-node.seen c.loop-node.next.items c.args.left c.loop-node.node-index c.loop-node.invariant
    (subst (λ k. AreBelow k (map (λ row. row.items) c.args.rows.now)) (sym n) c.requires.neighbours) (c.requires.nodes ∙ sym n) (let e : length c.loop-node.next.items ≡ c.args.left = omega arith in e)
    (taken_some c.args.front.now c.loop-node.node-index)).marks

pub visit-requires : goal.visit-requires
visit-requires c = slice_below (λ row. row.items) c.args.rows.now (length c.args.rows.now) (length c.loop-node.seen) (get_or c.args.front.now c.loop-node.node-index 0) c.index-rows-node.result c.deref.result.now
    (let l : c.loop-node.node-index < length c.args.front.now = c.loop-node-test.true in c.requires.front c.loop-node.node-index 0 l) c.index-rows-node.is c.deref.ensures.value (c.loop-node.auto.seen ∙ c.requires.nodes) c.requires.neighbours

pub loop-node-preserved : goal.loop-node-preserved
loop-node-preserved c =
    let l : c.loop-node.node-index < length c.args.front.now = c.loop-node-test.true in
    leveled (map (λ row. row.items) c.args.rows.now) c.args.front.now c.args.seen.now c.loop-node.seen c.loop-node.next.items c.args.left c.loop-node.node-index c.loop-node.invariant
    (get_or c.args.front.now c.loop-node.node-index 0) c.deref.result.now c.visit.new.seen c.visit.new.next.items l (get_or_default c.args.front.now c.loop-node.node-index 0 (get_or c.args.front.now c.loop-node.node-index 0) l)
    (c.deref.ensures.value ∙ view_at (λ row. row.items) c.args.rows.now (get_or c.args.front.now c.loop-node.node-index 0) c.index-rows-node.result (c.requires.front c.loop-node.node-index 0 l) c.index-rows-node.is)
    (record { seen_is = c.in_ok-visit.ensures.seen; next_is = c.in_ok-visit.ensures.next; count = c.in_ok-visit.ensures.count })
    c.visit.auto.seen

pub returns-clause-marks : goal.returns-clause-marks
returns-clause-marks c = (all_leveled (map (λ row. row.items) c.args.rows.now) c.args.front.now c.args.seen.now c.loop-node.seen c.loop-node.next.items c.args.left c.loop-node.node-index (omega arith) c.loop-node.invariant).marks
