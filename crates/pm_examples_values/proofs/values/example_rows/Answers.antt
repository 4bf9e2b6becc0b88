use Rattle.pm_examples_values.proofs.RowExamples.{rows_are_read}
use Rattle.pm_examples_values.proofs.values.example_rows.Goals as goal

pub returns : goal.returns
returns c = rows_are_read
