use Rattle.pm_examples_values.proofs.DimensionExamples.{square_dimensions_are_read}
use Rattle.pm_examples_values.proofs.values.example_square_dimensions.Goals as goal

pub returns : goal.returns
returns c = square_dimensions_are_read
