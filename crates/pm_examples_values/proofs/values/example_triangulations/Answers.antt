use Rattle.pm_examples_values.proofs.PlacingExamples.{triangulations_are_read}
use Rattle.pm_examples_values.proofs.values.example_triangulations.Goals as goal

pub returns : goal.returns
returns c = triangulations_are_read
