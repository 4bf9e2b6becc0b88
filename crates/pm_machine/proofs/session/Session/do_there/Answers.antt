-- What was asked was given, ensured or explained, or in part; a command that only tells changes nothing.
use Rattle.std.proofs.Common.{ap, refl}
use Rattle.pm_command.specs.Commands.{spoken}
use Rattle.pm_machine.proofs.Names.{part_as, stays_in_part, step_as}
use Rattle.pm_script.specs.Replies.{seen}
use Rattle.pm_rounds.proofs.Rounds.{on_err_of}
use Rattle.pm_machine.proofs.session.Session.do_there.Goals as goal

pub returns-in-Explain-clause-part : goal.returns-in-Explain-clause-part
returns-in-Explain-clause-part g c =
    part_as _ c.do_explain.result _ (spoken c.args.c.now) _ _ _ (ap spoken c.in-Explain.is) (rw (c.deref-in-Explain.ensures.value, c.deref-in-Explain-2.ensures.value) at c.do_explain.ensures.part)

pub returns-in_default-clause-part : goal.returns-in_default-clause-part
returns-in_default-clause-part g c =
    on_err_of c.do_tell.result (stays_in_part _ _ _ _ (spoken c.args.c.now) (record { names = refl; objects = λ q. refl; clients = refl; store = refl }))

pub returns-in-Give-clause-step : goal.returns-in-Give-clause-step
returns-in-Give-clause-step g c =
    step_as _ seen c.do_give.result _ (spoken c.args.c.now) _ _ _ (ap spoken c.in-Give.is) (rw c.deref-in-Give.ensures at c.do_give.ensures.step)

pub returns-in-Ensure-clause-step : goal.returns-in-Ensure-clause-step
returns-in-Ensure-clause-step g c =
    step_as _ seen c.do_ensure.result _ (spoken c.args.c.now) _ _ _ (ap spoken c.in-Ensure.is) (rw c.deref-in-Ensure.ensures.value at c.do_ensure.ensures.step)

pub returns-in-Ensure-clause-part : goal.returns-in-Ensure-clause-part
returns-in-Ensure-clause-part g c =
    part_as _ c.do_ensure.result _ (spoken c.args.c.now) _ _ _ (ap spoken c.in-Ensure.is) (rw c.deref-in-Ensure.ensures.value at c.do_ensure.ensures.part)
