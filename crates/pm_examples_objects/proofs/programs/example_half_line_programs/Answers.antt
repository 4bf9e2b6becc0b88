-- The example is a lemma of Programs.
use Rattle.pm_examples_objects.proofs.ProgramValues.{half_line_programs_are_read}
use Rattle.pm_examples_objects.proofs.programs.example_half_line_programs.Goals as goal

pub returns : goal.returns
returns c = half_line_programs_are_read
