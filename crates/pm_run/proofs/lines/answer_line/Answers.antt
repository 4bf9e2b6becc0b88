-- A command that was not answered happened in part.
use Rattle.std.proofs.Common.{ap, ◌∙◌}
use Rattle.std.specs.Option.{option_map}
use Rattle.pm_command.specs.Commands.{spoken}
use Rattle.pm_run.proofs.Outcomes.{hand_of}
use Rattle.pm_run.proofs.lines.answer_line.Goals as goal

pub returns-in_err-step-in-Some-clause-part : goal.returns-in_err-step-in-Some-clause-part
returns-in_err-step-in-Some-clause-part g c =
    hand_of _ _ _ _ _ c.args.line.now _ (c.in_ok-command_at.ensures.command ∙ ap (option_map spoken) c.in-Some.is) c.in_err-step-in-Some.ensures.part
