use Rattle.pm_examples_values.proofs.RayExamples.{line_dimensions_are_read}
use Rattle.pm_examples_values.proofs.values.example_line_dimensions.Goals as goal

pub returns : goal.returns
returns c = line_dimensions_are_read
