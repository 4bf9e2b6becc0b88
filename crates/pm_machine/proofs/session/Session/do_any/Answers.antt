-- A command that is on no files does beside the store what it does alone.
use Rattle.std.proofs.Common.{sym, ◌∙◌}
use Rattle.pm_machine.proofs.Beside.{answered_beside, broken_beside}
use Rattle.pm_machine.specs.Sessions.{book_of}
use Rattle.pm_command.specs.Commands.{spoken}
use Rattle.pm_script.specs.Replies.{seen}
use Rattle.pm_machine.proofs.session.Session.do_any.Goals as goal

pub returns-else-is_on_files-clause-step : goal.returns-else-is_on_files-clause-step
returns-else-is_on_files-clause-step g c =
    answered_beside _ seen (record { files = g.F.Store.files c.args.store.now; faults = g.F.Store.faults c.args.store.now }) (book_of c.args.self.now) _ _ (spoken c.args.c) c.do_step.result
    (sym c.is_on_files.ensures ∙ c.if-is_on_files.false) c.do_step.ensures.step

pub returns-else-is_on_files-clause-part : goal.returns-else-is_on_files-clause-part
returns-else-is_on_files-clause-part g c =
    broken_beside _ (record { files = g.F.Store.files c.args.store.now; faults = g.F.Store.faults c.args.store.now }) (book_of c.args.self.now) _ _ (spoken c.args.c) c.do_step.result
    (sym c.is_on_files.ensures ∙ c.if-is_on_files.false) c.do_step.ensures.part
