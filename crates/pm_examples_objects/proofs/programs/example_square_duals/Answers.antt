-- The example is a lemma of Programs.
use Rattle.pm_examples_objects.proofs.ProgramValues.{square_duals_are_read}
use Rattle.pm_examples_objects.proofs.programs.example_square_duals.Goals as goal

pub returns : goal.returns
returns c = square_duals_are_read
