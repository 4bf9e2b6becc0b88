use Rattle.pm_examples_values.proofs.Objects.{objects_are_judged}
use Rattle.pm_examples_values.proofs.runs.example_honest_objects.Goals as goal

pub returns : goal.returns
returns c = objects_are_judged
