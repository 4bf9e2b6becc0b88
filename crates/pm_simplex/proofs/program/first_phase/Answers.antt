use Rattle.pm_simplex.proofs.Answers.{never_unbounded, phase_end, ready_from}
use Rattle.pm_simplex.proofs.program.first_phase.Goals as goal
use Rattle.std.proofs.Common.{◌+◌}

pub returns-then-not-branch-clause-end : goal.returns-then-not-branch-clause-end
returns-then-not-branch-clause-end g c = ready_from c.args.y g.system c.begin.new.d (c.args.y.slacks + c.args.y.residuals + 1) c.in_ok-begin.ensures.state c.in_ok-begin.ensures.arranged (c.in_ok-begin.ensures.without c.if-not-branch.true)

pub unreachable-requires : goal.unreachable-requires
unreachable-requires g c = never_unbounded c.args.y g.system c.improve.new.d c.in-Unbounded.field-0 c.requires.1 c.in_ok-improve.ensures.state c.in_ok-improve.ensures.arranged (rw c.in-Unbounded.is at c.in_ok-improve.ensures.end)

pub returns-clause-end : goal.returns-clause-end
returns-clause-end g c =
    phase_end c.args.y g.system c.improve.new.d c.row_with.result c.requires.1 c.in_ok-improve.ensures.state c.in_ok-improve.ensures.arranged (rw c.in-Optimal.is at c.in_ok-improve.ensures.end)
    c.row_with.ensures.within c.row_with.ensures.own c.row_with.ensures.none
