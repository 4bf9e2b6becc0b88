use Rattle.pm_examples_values.proofs.FanExamples.{simplicial_fans_are_read}
use Rattle.pm_examples_values.proofs.values.example_simplicial_fans.Goals as goal

pub returns : goal.returns
returns c = simplicial_fans_are_read
