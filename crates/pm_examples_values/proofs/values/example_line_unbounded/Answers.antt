use Rattle.pm_examples_values.proofs.RayExamples.{line_is_unbounded}
use Rattle.pm_examples_values.proofs.values.example_line_unbounded.Goals as goal

pub returns : goal.returns
returns c = line_is_unbounded
