use Rattle.pm_redund.proofs.Inserted.{more_itself, more_set, more_then, set_generates}
use Rattle.pm_redund.proofs.enough.settle.Goals as goal
use Rattle.std.proofs.Common.{arith, length, ◌<◌}

pub loop-step-init : goal.loop-step-init
loop-step-init c = record { partly = c.requires.partly; more = more_itself c.args.enough.now.chosen.marks.items }

pub returns-then-branch-clause-more : goal.returns-then-branch-clause-more
returns-then-branch-clause-more c = more_then c.args.enough.now.chosen.marks.items c.loop-step.enough.chosen.marks.items c.settle_once.new.enough.chosen.marks.items c.loop-step.invariant.more c.in_ok-settle_once.ensures.more

pub loop-step-preserved : goal.loop-step-preserved
loop-step-preserved c = record {
  partly = c.in_ok-settle_once.ensures.partly;
  more = more_then c.args.enough.now.chosen.marks.items c.loop-step.enough.chosen.marks.items c.settle_once.new.enough.chosen.marks.items c.loop-step.invariant.more c.in_ok-settle_once.ensures.more;
}

pub returns-clause-more : goal.returns-clause-more
returns-clause-more c =
    let M = c.loop-step.enough.chosen.marks.items in
    let within : c.args.i < length M = (let e = c.loop-step.invariant.partly.chosen.as_many in let l = c.requires.place in omega arith) in
    more_then c.args.enough.now.chosen.marks.items M c.choose.new.chosen.marks.items c.loop-step.invariant.more (rw c.in_ok-choose.ensures.marks (more_set M c.args.i within))

pub returns-clause-settled : goal.returns-clause-settled
returns-clause-settled c =
    let M = c.loop-step.enough.chosen.marks.items in
    let within : c.args.i < length M = (let e = c.loop-step.invariant.partly.chosen.as_many in let l = c.requires.place in omega arith) in
    rw c.in_ok-choose.ensures.marks (set_generates M c.args.rows.now c.args.lines.now c.args.i within c.requires.place)
