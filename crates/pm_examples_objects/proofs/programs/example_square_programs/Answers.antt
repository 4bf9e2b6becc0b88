-- The example is a lemma of Programs.
use Rattle.pm_examples_objects.proofs.ProgramValues.{square_programs_are_read}
use Rattle.pm_examples_objects.proofs.programs.example_square_programs.Goals as goal

pub returns : goal.returns
returns c = square_programs_are_read
