use Rattle.pm_examples_values.proofs.ConeExamples.{cone_rows_are_read}
use Rattle.pm_examples_values.proofs.values.example_cone_rows.Goals as goal

pub returns : goal.returns
returns c = cone_rows_are_read
