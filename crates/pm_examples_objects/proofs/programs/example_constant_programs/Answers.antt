-- The example is a lemma of Programs.
use Rattle.pm_examples_objects.proofs.ProgramValues.{constant_programs_are_read}
use Rattle.pm_examples_objects.proofs.programs.example_constant_programs.Goals as goal

pub returns : goal.returns
returns c = constant_programs_are_read
