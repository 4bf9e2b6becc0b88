use Rattle.pm_examples_values.proofs.RayExamples.{empty_values_are_read}
use Rattle.pm_examples_values.proofs.values.example_empty_values.Goals as goal

pub returns : goal.returns
returns c = empty_values_are_read
