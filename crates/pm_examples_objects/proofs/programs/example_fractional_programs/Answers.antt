-- The example is a lemma of Programs.
use Rattle.pm_examples_objects.proofs.ProgramValues.{fractional_programs_are_read}
use Rattle.pm_examples_objects.proofs.programs.example_fractional_programs.Goals as goal

pub returns : goal.returns
returns c = fractional_programs_are_read
