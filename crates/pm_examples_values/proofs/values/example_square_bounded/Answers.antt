use Rattle.pm_examples_values.proofs.RayExamples.{square_is_bounded}
use Rattle.pm_examples_values.proofs.values.example_square_bounded.Goals as goal

pub returns : goal.returns
returns c = square_is_bounded
