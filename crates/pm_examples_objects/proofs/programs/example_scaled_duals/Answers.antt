use Rattle.pm_examples_objects.proofs.Endless.{scaled_duals_are_read}
use Rattle.pm_examples_objects.proofs.programs.example_scaled_duals.Goals as goal

pub returns : goal.returns
returns c = scaled_duals_are_read
