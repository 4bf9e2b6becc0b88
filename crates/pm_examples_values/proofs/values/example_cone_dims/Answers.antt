use Rattle.pm_examples_values.proofs.FanExamples.{cone_dims_are_read}
use Rattle.pm_examples_values.proofs.values.example_cone_dims.Goals as goal

pub returns : goal.returns
returns c = cone_dims_are_read
