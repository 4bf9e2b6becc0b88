-- The example is a lemma of Programs.
use Rattle.pm_examples_objects.proofs.ProgramValues.{empty_programs_are_read}
use Rattle.pm_examples_objects.proofs.programs.example_empty_programs.Goals as goal

pub returns : goal.returns
returns c = empty_programs_are_read
