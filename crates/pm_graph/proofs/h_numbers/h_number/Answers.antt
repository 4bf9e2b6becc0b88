use Rattle.pm_graph.proofs.HNumbers.{IsSumTo, kept_difference, sum_more}
use Rattle.pm_graph.proofs.h_numbers.h_number.Goals as goal
use Rattle.std.proofs.Common.{arith, subst}

pub loop-i-preserved : goal.loop-i-preserved
loop-i-preserved c =
    let v = subst (λ z. IsSumTo c.args.f.now c.args.d c.args.k c.loop-i.i z) c.loop-i.sum-is c.loop-i.invariant in
    sum_more c.args.f.now c.args.d c.args.k c.loop-i.i c.loop-i.sum c.term-sum.result _ (omega arith) c.term-sum.ensures.value c.term-sum.ensures.low c.term-sum.ensures.high
    (kept_difference c.term-sum.result c.loop-i.sum c.loop-i.sum-bits c.loop-i.i c.args.k c.term-sum.ensures.low c.term-sum.ensures.high (let a = c.requires.few in let b = c.requires.within in omega arith) v.low v.high c.loop-i.sum-is) v
