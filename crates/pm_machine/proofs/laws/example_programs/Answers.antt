use Rattle.pm_machine.proofs.Examples.{programs_are_read}
use Rattle.pm_machine.proofs.laws.example_programs.Goals as goal

pub returns : goal.returns
returns c = programs_are_read
