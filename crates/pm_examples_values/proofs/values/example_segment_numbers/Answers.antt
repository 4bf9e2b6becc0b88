-- The example is a lemma of GraphExamples.
use Rattle.pm_examples_values.proofs.GraphExamples.{segment_numbers_are_read}
use Rattle.pm_examples_values.proofs.values.example_segment_numbers.Goals as goal

pub returns : goal.returns
returns c = segment_numbers_are_read
