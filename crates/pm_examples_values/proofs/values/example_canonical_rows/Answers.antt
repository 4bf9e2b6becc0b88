use Rattle.pm_examples_values.proofs.CanonicalExamples.{canonical_rows_are_read}
use Rattle.pm_examples_values.proofs.values.example_canonical_rows.Goals as goal

pub returns : goal.returns
returns c = canonical_rows_are_read
