use Rattle.pm_examples_values.proofs.ThingExamples.{columns_are_read}
use Rattle.pm_examples_values.proofs.values.example_columns.Goals as goal

pub returns : goal.returns
returns c = columns_are_read
