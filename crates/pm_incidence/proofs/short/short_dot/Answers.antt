use Rattle.pm_incidence.proofs.ShortRows.{held_product_fits, held_sum_fits, held_sum_is}
use Rattle.pm_incidence.proofs.short.short_dot.Goals as goal
use Rattle.std.proofs.Common.{arith, length, to_z, ◌<◌}
use Rattle.std.specs.Int.{w64}

pub overflow_mul-sum : goal.overflow_mul-sum
overflow_mul-sum c =
    let same = c.requires.same_length in
    let in_b : c.loop-i.i < length c.args.b.now = let l = c.loop-i-test.true in omega arith in
    held_product_fits c.args.a.now c.args.b.now c.requires.a c.requires.b c.loop-i.i c.loop-i-test.true in_b (to_z w64 c.loop-i.sum-bits) c.loop-i.invariant

pub overflow_add-sum : goal.overflow_add-sum
overflow_add-sum c =
    let same = c.requires.same_length in
    let in_b : c.loop-i.i < length c.args.b.now = let l = c.loop-i-test.true in omega arith in
    held_sum_fits c.args.a.now c.args.b.now c.requires.a c.requires.b c.loop-i.i c.loop-i-test.true in_b (to_z w64 c.loop-i.sum-bits) c.loop-i.invariant

pub loop-i-preserved : goal.loop-i-preserved
loop-i-preserved c =
    let same = c.requires.same_length in
    let in_b : c.loop-i.i < length c.args.b.now = let l = c.loop-i-test.true in omega arith in
    held_sum_is c.args.a.now c.args.b.now c.requires.a c.requires.b c.loop-i.i c.loop-i-test.true in_b (to_z w64 c.loop-i.sum-bits) c.loop-i.invariant
