use Rattle.std.proofs.Common.{◌≡◌, length, vec_len, arith}
use Rattle.pm_weights.specs.Weights.{no_cost}
use Rattle.pm_plan.proofs.Exploring.{begun_explored, next_fits, explored_more}
use Rattle.pm_plan.proofs.search.explore.Goals as goal

pub settle-init : goal.settle-init
settle-init c =
    begun_explored c.args.moves.now (record { set = c.args.held; cost = no_cost }) c.args.asked c.new-search.result c.offer.new.self c.new-search.ensures (rw c.start_of-start.ensures at c.in_ok-offer.ensures)

pub expand-requires-clause-class : goal.expand-requires-clause-class
expand-requires-clause-class c =
    (next_fits c.args.moves.now (record { set = c.args.held; cost = no_cost }) c.requires (omega arith, omega arith) c.args.asked c.settle.search c.in-Some.row c.in-Some.link
    c.settle.invariant.sound c.in-Some.ensures.next (omega arith)).0

pub expand-requires-clause-minor : goal.expand-requires-clause-minor
expand-requires-clause-minor c =
    (next_fits c.args.moves.now (record { set = c.args.held; cost = no_cost }) c.requires (omega arith, omega arith) c.args.asked c.settle.search c.in-Some.row c.in-Some.link
    c.settle.invariant.sound c.in-Some.ensures.next (omega arith)).1

pub settle-preserved : goal.settle-preserved
settle-preserved c =
    let same : vec_len c.settle.search.rows ≡ length c.settle.search.rows.items = omega (arith, c.settle.search.rows.ok.0) in
    explored_more c.args.moves.now (record { set = c.args.held; cost = no_cost }) c.args.asked c.settle.search c.settle-in-Some.new.self c.expand.new.self c.in-Some.row c.in-Some.link
    c.settle.invariant c.in-Some.ensures.next c.in-Some.ensures.below (omega arith) c.in_ok-settle.ensures (rw (c.len-from.ensures, same) at c.in_ok-expand.ensures)

pub returns-then-from-ge-MOST_TABLE_ROWS-clause-full : goal.returns-then-from-ge-MOST_TABLE_ROWS-clause-full
returns-then-from-ge-MOST_TABLE_ROWS-clause-full c = λ same. record {
  full = omega (arith, c.len-from.ensures, c.settle.search.rows.ok.0, c.settle.invariant.few, c.if-from-ge-MOST_TABLE_ROWS.true);
  next = c.in-Some.row;
  link = c.in-Some.link;
  is_next = c.in-Some.ensures.next;
  below = c.in-Some.ensures.below;
}
