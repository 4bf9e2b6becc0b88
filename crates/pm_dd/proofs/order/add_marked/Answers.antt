use Rattle.pm_dd.proofs.Marks.{marked_end}
use Rattle.pm_dd.proofs.order.add_marked.Goals as goal
use Rattle.std.proofs.Common.{arith, sym, ◌∙◌}

pub returns : goal.returns
returns c = sym (marked_end c.args.mark c.args.marks.now c.args.rows.now c.loop-i.i c.loop-i.made.items (omega arith)) ∙ c.loop-i.invariant
