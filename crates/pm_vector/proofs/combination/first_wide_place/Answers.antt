-- Each turn finds the entry in the range, or ends at it.
use Rattle.pm_vector.proofs.Differences.{DifferenceStays-from_first, FirstStay-more, FirstStay-none}
use Rattle.pm_vector.proofs.Exits.{at_error, at_value}
use Rattle.pm_vector.proofs.combination.first_wide_place.Goals as goal
use Rattle.std.proofs.Common.{arith}
use Rattle.std.proofs.lemmas.Int.{to_z-of_z}
use Rattle.std.specs.Int.{w128}

pub loop-i-init : goal.loop-i-init
loop-i-init c = FirstStay-none _ c.args.v.now _ c.args.w.now

pub loop-i-preserved : goal.loop-i-preserved
loop-i-preserved c = FirstStay-more _ c.args.v.now _ c.args.w.now c.loop-i.i c.loop-i.invariant (at_value c.difference_at.result _ c.if-is_err.ensures.value c.difference_at.ensures.stays)

pub returns-then-is_err-clause-some : goal.returns-then-is_err-clause-some
returns-then-is_err-clause-some c =
    let so_far = rw (to_z-of_z w128 c.args.p c.ranges.p, to_z-of_z w128 c.args.q c.ranges.q) at c.loop-i.invariant in
    record {
      within = c.loop-i-test.true;
      wide = rw (to_z-of_z w128 c.args.p c.ranges.p, to_z-of_z w128 c.args.q c.ranges.q) at (at_error c.difference_at.result _ c.if-is_err.ensures.value c.difference_at.ensures.wide);
      before = so_far.at_each;
    }

pub returns-clause-none : goal.returns-clause-none
returns-clause-none c = DifferenceStays-from_first c.args.p c.args.v.now c.args.q c.args.w.now c.loop-i.i (omega arith) (omega arith) (rw (to_z-of_z w128 c.args.p c.ranges.p, to_z-of_z w128 c.args.q c.ranges.q) at c.loop-i.invariant)
