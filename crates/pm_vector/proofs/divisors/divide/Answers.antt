use Rattle.pm_vector.specs.Rows.{entry}
use Rattle.pm_vector.proofs.QuotientLaws.{divided_more}
use Rattle.pm_vector.proofs.divisors.divide.Goals as goal
use Rattle.std.proofs.Common.{FitsSigned, arith, length, rules, ◌<◌}
use Rattle.std.proofs.lemmas.Int.{quot_fits, quot_is, to_z-of_z}
use Rattle.std.specs.Int.{w128}

pub loop-x-preserved : goal.loop-x-preserved
loop-x-preserved c =
    let fits : FitsSigned w128 (entry c.loop-x.row c.loop-x.x-index) = search rules in
    let within : c.loop-x.x-index < length c.args.row.now = omega arith in
    let so_far = rw (to_z-of_z w128 c.args.d c.ranges.d) at c.loop-x.invariant in
    rw (quot_is w128 (entry c.loop-x.row c.loop-x.x-index) c.args.d fits c.ranges.d (quot_fits w128 (entry c.loop-x.row c.loop-x.x-index) c.args.d fits c.requires), to_z-of_z w128 c.args.d c.ranges.d)
    (divided_more c.args.row.now c.loop-x.row c.args.d c.loop-x.x-index within so_far)
