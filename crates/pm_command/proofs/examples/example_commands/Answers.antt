use Rattle.pm_command.proofs.CommandExamples.{commands_are_read, no_commands_are_read}
use Rattle.pm_command.proofs.examples.example_commands.Goals as goal

pub returns : goal.returns
returns c = record { read = commands_are_read; none = no_commands_are_read }
