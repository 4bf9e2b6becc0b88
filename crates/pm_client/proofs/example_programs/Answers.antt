use Rattle.pm_client.proofs.ProgramExamples.{programs_are_read}
use Rattle.pm_client.proofs.example_programs.Goals as goal

pub returns : goal.returns
returns c = programs_are_read
