use Rattle.pm_examples_values.proofs.RowExamples.{half_spaces_are_read}
use Rattle.pm_examples_values.proofs.values.example_half_spaces.Goals as goal

pub returns : goal.returns
returns c = half_spaces_are_read
