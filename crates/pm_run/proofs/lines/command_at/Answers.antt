use Rattle.std.proofs.Common.{ap, sym, ◌∙◌}
use Rattle.pm_command.specs.Commands.{command_of}
use Rattle.pm_machine.proofs.Spoken.{speaks_named}
use Rattle.pm_run.proofs.OneLine.{command_at-long, command_at-short}
use Rattle.pm_run.proofs.lines.command_at.Goals as goal

pub returns-then-is_too_long-clause-command : goal.returns-then-is_too_long-clause-command
returns-then-is_too_long-clause-command c = command_at-long c.args.line.now (sym c.is_too_long.ensures ∙ c.if-is_too_long.true)

pub returns-in-Ok-clause-command : goal.returns-in-Ok-clause-command
returns-in-Ok-clause-command c =
    command_at-short c.args.line.now _ (sym c.is_too_long.ensures ∙ c.if-is_too_long.false) (sym (ap command_of c.text.ensures) ∙ c.in-Ok.ensures.ok)

pub returns-in-Ok-clause-named : goal.returns-in-Ok-clause-named
returns-in-Ok-clause-named c = speaks_named c.text.result.now _ c.in-Ok.ensures.spoken

pub returns-in-Err-BadCommand-clause-command : goal.returns-in-Err-BadCommand-clause-command
returns-in-Err-BadCommand-clause-command c =
    command_at-short c.args.line.now _ (sym c.is_too_long.ensures ∙ c.if-is_too_long.false) (sym (ap command_of c.text.ensures) ∙ c.in-Err-BadCommand.ensures.refused c.in-Err-BadCommand.field-0-is)
