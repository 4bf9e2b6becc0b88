use Rattle.pm_examples_values.proofs.RowExamples.{generators_are_read}
use Rattle.pm_examples_values.proofs.values.example_generators.Goals as goal

pub returns : goal.returns
returns c = generators_are_read
