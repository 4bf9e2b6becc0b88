use Rattle.pm_vector.proofs.WideSums.{SumOfFirst-more, sum_all, sum_small}
use Rattle.pm_vector.proofs.wide_product.wide_dot.Goals as goal
use Rattle.pm_vector.specs.WideInts.{value_of}
use Rattle.std.proofs.Common.{arith, length, ◌<◌, ◌^◌}

pub loop-i-preserved : goal.loop-i-preserved
loop-i-preserved c =
    let in_b : c.loop-i.i < length c.args.b.now = omega arith in
    SumOfFirst-more c.args.a.now c.args.b.now c.loop-i.i (value_of c.loop-i.sum) (value_of c.add_product-sum.result) c.loop-i-test.true in_b c.loop-i.invariant c.add_product-sum.ensures.value c.add_product-sum.ensures.small

pub returns-clause-value : goal.returns-clause-value
returns-clause-value c = sum_all c.args.a.now c.args.b.now c.loop-i.i (value_of c.loop-i.sum) (omega arith) (omega arith) c.loop-i.invariant

pub returns-clause-small : goal.returns-clause-small
returns-clause-small c =
    let s = c.loop-i.invariant.small in
    let few : c.loop-i.i < 2 ^ 64 = omega arith in
    sum_small c.loop-i.i (value_of c.loop-i.sum) few s
