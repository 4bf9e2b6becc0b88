use Rattle.pm_examples_values.proofs.DimensionExamples.{empty_dimensions_are_read}
use Rattle.pm_examples_values.proofs.values.example_empty_dimensions.Goals as goal

pub returns : goal.returns
returns c = empty_dimensions_are_read
