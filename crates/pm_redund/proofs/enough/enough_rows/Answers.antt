use Rattle.pm_redund.proofs.Steps.{grown_enough, settled_more}
use Rattle.pm_redund.proofs.enough.enough_rows.Goals as goal
use Rattle.std.proofs.Common.{arith}

pub loop-i-preserved : goal.loop-i-preserved
loop-i-preserved c = record {
  partly = c.in_ok-settle.ensures.partly;
  each = settled_more c.args.rows.now c.args.lines.now c.loop-i.enough.chosen.marks.items c.settle.new.enough.chosen.marks.items c.loop-i.i c.in_ok-settle.ensures.more c.in_ok-settle.ensures.settled c.loop-i.invariant.each;
}

pub returns-clause-enough : goal.returns-clause-enough
returns-clause-enough c =
    let h = c.loop-i.invariant in
    grown_enough c.args.rows.now c.args.lines.now c.loop-i.enough.chosen.marks.items h.partly.chosen.as_many (λ k l. h.each k (let m = c.loop-i-test.false in omega arith))
