use Rattle.pm_examples_values.proofs.RowExamples.{pairs_are_read}
use Rattle.pm_examples_values.proofs.values.example_pairs.Goals as goal

pub returns : goal.returns
returns c = pairs_are_read
