use Rattle.pm_props.proofs.Looks.{looked_all, looked_more}
use Rattle.pm_props.specs.Properties.{has_program}
use Rattle.pm_rules.proofs.Tagged.{a_program, no_program}
use Rattle.pm_rules.proofs.step.has_programs.Goals as goal
use Rattle.std.proofs.Common.{sym, ◌∙◌}

pub look-init : goal.look-init
look-init c = looked_all has_program c.args.set

pub look-preserved : goal.look-preserved
look-preserved c = looked_more has_program c.args.set c.look.rest c.without-rest.result c.look.invariant c.in-Some.p (sym c.is_of_programs.ensures ∙ c.if-is_of_programs.false) c.without-rest.ensures.members

pub returns-in_default : goal.returns-in_default
returns-in_default c = no_program c.args.set c.look.rest c.look.invariant c.in_default.ensures.none

pub returns-then-is_of_programs : goal.returns-then-is_of_programs
returns-then-is_of_programs c = a_program c.args.set c.look.rest c.look.invariant c.in-Some.p c.in-Some.ensures.some (sym c.is_of_programs.ensures ∙ c.if-is_of_programs.true)
