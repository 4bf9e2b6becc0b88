use Rattle.pm_examples_objects.proofs.Endless.{line_programs_are_read}
use Rattle.pm_examples_objects.proofs.programs.example_line_programs.Goals as goal

pub returns : goal.returns
returns c = line_programs_are_read
