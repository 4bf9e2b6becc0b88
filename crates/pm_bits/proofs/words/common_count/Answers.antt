use Rattle.std.proofs.Common.{arith, ◌+◌}
use Rattle.pm_bits.proofs.Common.{common_all, common_more, common_part}
use Rattle.pm_bits.proofs.words.common_count.Goals as goal

pub overflow_add-ones : goal.overflow_add-ones
overflow_add-ones c =
    let next = common_more c.args.a.now c.args.b.now c.loop-i.i c.loop-i.ones c.requires.same_len (omega arith) c.loop-i.invariant in
    let part = common_part c.args.a.now c.args.b.now (c.loop-i.i + 1) c.requires.same_len (λ k. (c.type_inv.b k).fits) in
    record { fits = omega (arith, next, part, c.requires.in_range) }

pub loop-i-preserved : goal.loop-i-preserved
loop-i-preserved c = common_more c.args.a.now c.args.b.now c.loop-i.i c.loop-i.ones c.requires.same_len (omega arith) c.loop-i.invariant

pub returns : goal.returns
returns c = common_all c.args.a.now c.args.b.now c.loop-i.i c.loop-i.ones c.requires.same_len (omega arith) (λ k. (c.type_inv.b k).fits) c.loop-i.invariant
