use Rattle.pm_props.proofs.Looks.{looked_all, looked_more}
use Rattle.pm_rules.proofs.Tagged.{a_tag, no_tag}
use Rattle.pm_rules.specs.Steps.{tag_test}
use Rattle.pm_rules.proofs.step.Tag.is_in.Goals as goal
use Rattle.std.proofs.Common.{sym, ◌∙◌}

pub look-init : goal.look-init
look-init c = looked_all (tag_test c.args.self) c.args.set

pub look-preserved : goal.look-preserved
look-preserved c = looked_more (tag_test c.args.self) c.args.set c.look.rest c.without-rest.result c.look.invariant c.in-Some.p (sym c.is_of.ensures ∙ c.if-is_of.false) c.without-rest.ensures.members

pub returns-in_default : goal.returns-in_default
returns-in_default c = no_tag c.args.set c.look.rest c.args.self c.look.invariant c.in_default.ensures.none

pub returns-then-is_of : goal.returns-then-is_of
returns-then-is_of c = a_tag c.args.set c.look.rest c.args.self c.look.invariant c.in-Some.p c.in-Some.ensures.some (sym c.is_of.ensures ∙ c.if-is_of.true)
