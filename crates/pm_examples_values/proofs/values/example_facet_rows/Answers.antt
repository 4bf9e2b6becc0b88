use Rattle.pm_examples_values.proofs.RayRowExamples.{facet_rows_are_read}
use Rattle.pm_examples_values.proofs.values.example_facet_rows.Goals as goal

pub returns : goal.returns
returns c = facet_rows_are_read
