use Rattle.pm_examples_values.proofs.FanExamples.{maximal_cones_are_read}
use Rattle.pm_examples_values.proofs.values.example_maximal_cones.Goals as goal

pub returns : goal.returns
returns c = maximal_cones_are_read
