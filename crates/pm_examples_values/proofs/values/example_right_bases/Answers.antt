use Rattle.pm_examples_values.proofs.RayRowExamples.{bases_are_right}
use Rattle.pm_examples_values.proofs.values.example_right_bases.Goals as goal

pub returns : goal.returns
returns c = bases_are_right
