use Rattle.std.proofs.Common.{ap, sym, ◌∙◌}
use Rattle.pm_command.proofs.Breaks.{without_last_cr-cr, without_last_cr-other}
use Rattle.pm_command.specs.Lines.{without_last_cr}
use Rattle.pm_command.proofs.lines.without_last_cr.Goals as goal

pub returns-in-Some : goal.returns-in-Some
returns-in-Some c =
    sym (ap without_last_cr c.in-Some.ensures.cases.0 ∙ without_last_cr-cr c.in-Some.front.now c.in-Some.last.now c.if-last-eq13.true)

pub returns-in_default : goal.returns-in_default
returns-in_default c =
    c.in-Some.ensures.cases.0 ∙ sym (ap without_last_cr c.in-Some.ensures.cases.0 ∙ without_last_cr-other c.in-Some.front.now c.in-Some.last.now c.if-last-eq13.false)
