use Rattle.pm_vector.specs.Rows.{entry}
use Rattle.pm_vector.specs.Differences.{EntryStays}
use Rattle.pm_vector.proofs.Differences.{All-written, PartlyWritten-more, written_all}
use Rattle.pm_vector.proofs.Kept.{difference_fits, kept_difference}
use Rattle.pm_vector.proofs.combination.write_differences.Goals as goal
use Rattle.std.proofs.Common.{FitsSigned, arith, length, refl, rules, ◌<◌}
use Rattle.std.proofs.lemmas.Int.{to_z-of_z}
use Rattle.std.specs.Int.{w128}

pub overflow_sub-v : goal.overflow_sub-v
overflow_sub-v c =
    let within : c.loop-i.i < length c.loop-i.v = omega arith in
    let same = c.loop-i.invariant.left c.loop-i.i (omega arith) in
    let stays : EntryStays c.args.p (entry c.loop-i.v c.loop-i.i) c.args.q (entry c.args.w.now c.loop-i.i) = rw same (c.requires.stays.at_each c.loop-i.i) in
    let fits_v : FitsSigned w128 (entry c.loop-i.v c.loop-i.i) = search rules in
    let fits_w : FitsSigned w128 (entry c.args.w.now c.loop-i.i) = search rules in
    difference_fits c.args.p (entry c.loop-i.v c.loop-i.i) c.args.q (entry c.args.w.now c.loop-i.i) c.ranges.p fits_v c.ranges.q fits_w stays

pub loop-i-preserved : goal.loop-i-preserved
loop-i-preserved c =
    let within : c.loop-i.i < length c.loop-i.v = omega arith in
    let same = c.loop-i.invariant.left c.loop-i.i (omega arith) in
    let stays : EntryStays c.args.p (entry c.loop-i.v c.loop-i.i) c.args.q (entry c.args.w.now c.loop-i.i) = rw same (c.requires.stays.at_each c.loop-i.i) in
    let fits_v : FitsSigned w128 (entry c.loop-i.v c.loop-i.i) = search rules in
    let fits_w : FitsSigned w128 (entry c.args.w.now c.loop-i.i) = search rules in
    rw (kept_difference c.args.p (entry c.loop-i.v c.loop-i.i) c.args.q (entry c.args.w.now c.loop-i.i) c.ranges.p fits_v c.ranges.q fits_w stays)
    (PartlyWritten-more _ c.args.v.now _ c.args.w.now c.loop-i.i c.loop-i.v _ within c.loop-i.invariant (rw (to_z-of_z w128 c.args.p c.ranges.p, to_z-of_z w128 c.args.q c.ranges.q) refl))

pub returns-clause-value : goal.returns-clause-value
returns-clause-value c = written_all c.args.p c.args.v.now c.args.q c.args.w.now c.loop-i.i c.loop-i.v (omega arith) (omega arith) (omega arith) (rw (to_z-of_z w128 c.args.p c.ranges.p, to_z-of_z w128 c.args.q c.ranges.q) at c.loop-i.invariant)

pub returns-clause-in_range : goal.returns-clause-in_range
returns-clause-in_range c = All-written c.args.p c.args.v.now c.args.q c.args.w.now c.loop-i.i c.loop-i.v (omega arith) (rw (to_z-of_z w128 c.args.p c.ranges.p, to_z-of_z w128 c.args.q c.ranges.q) at c.loop-i.invariant) c.requires.stays
