use Rattle.pm_vector.proofs.Kept.{kept}
use Rattle.pm_vector.proofs.Products.{SumOfFirst-more, sum_stays}
use Rattle.pm_vector.proofs.product.dot.Goals as goal
use Rattle.std.proofs.Common.{arith, length, ◌<◌}
use Rattle.std.proofs.lemmas.Result.{err_from_is_err_and}

pub returns-in_err-sum-clause-wide : goal.returns-in_err-sum-clause-wide
returns-in_err-sum-clause-wide c =
    let p = err_from_is_err_and c.from_residual.result c.from_residual.ensures.1 in
    let short : c.loop-i.i < length c.args.b.now = omega arith in
    rw p.1 (λ h. c.in_err-sum.ensures.wide (h.products c.loop-i.i) (sum_stays c.args.a.now c.args.b.now c.loop-i.i _ c.loop-i-test.true short c.loop-i.invariant h))

pub loop-i-preserved : goal.loop-i-preserved
loop-i-preserved c =
    let short : c.loop-i.i < length c.args.b.now = omega arith in
    let value = c.in_ok-sum.ensures.value in
    rw (kept c.in_ok-sum.sum c.in_ok-sum.ensures.in_range)
    (SumOfFirst-more c.args.a.now c.args.b.now c.loop-i.i _ c.loop-i-test.true short c.in_ok-sum.sum c.loop-i.invariant value c.in_ok-sum.ensures.product_in_range c.in_ok-sum.ensures.in_range)
