use Rattle.pm_graph.proofs.Marks.{all_visited, marked_turn, passed_turn}
use Rattle.pm_graph.proofs.distances.visit.Goals as goal
use Rattle.pm_graph.proofs.distances.visit.Goals.{else-not-seen-place, then-not-seen-place+in_ok-push}
use Rattle.std.proofs.Common.{ap, arith, length, ◌<◌, ◌∙◌}

pub loop-node-preserved : goal.loop-node-preserved
loop-node-preserved c = elim c.if-not-seen-place.branch [
  | then-not-seen-place+in_ok-push w ↦ marked_turn c.args.seen.now c.loop-node.seen c.args.next.now.items c.loop-node.next.items c.args.row.now c.loop-node.node-index c.loop-node-test.true c.loop-node.invariant c.if-not-seen-place.seen c.if-not-seen-place.next.items
      (let l : c.loop-node.node-index < length c.args.row.now = c.loop-node-test.true in omega (arith, c.requires c.loop-node.node-index 0 l))
      (λ t. let f = w.if-not-seen-place.true in cc)
      w.seen-is (ap (λ v. v.items) w.next-is ∙ w.in_ok-push.ensures.items)
  | else-not-seen-place w ↦ passed_turn c.args.seen.now c.loop-node.seen c.args.next.now.items c.loop-node.next.items c.args.row.now c.loop-node.node-index c.loop-node-test.true c.loop-node.invariant c.if-not-seen-place.seen c.if-not-seen-place.next.items
      w.if-not-seen-place.false
      w.seen-is (ap (λ v. v.items) w.next-is)
]

pub returns-clause-seen : goal.returns-clause-seen
returns-clause-seen c = (all_visited c.args.seen.now c.loop-node.seen c.args.next.now.items c.loop-node.next.items c.args.row.now c.loop-node.node-index (omega arith) c.loop-node.invariant).seen_is

pub returns-clause-next : goal.returns-clause-next
returns-clause-next c = (all_visited c.args.seen.now c.loop-node.seen c.args.next.now.items c.loop-node.next.items c.args.row.now c.loop-node.node-index (omega arith) c.loop-node.invariant).next_is
