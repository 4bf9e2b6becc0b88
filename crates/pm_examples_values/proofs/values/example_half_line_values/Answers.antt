use Rattle.pm_examples_values.proofs.RayExamples.{half_line_values_are_read}
use Rattle.pm_examples_values.proofs.values.example_half_line_values.Goals as goal

pub returns : goal.returns
returns c = half_line_values_are_read
