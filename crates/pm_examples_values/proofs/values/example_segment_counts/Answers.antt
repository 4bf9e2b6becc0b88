-- The example is a lemma of FaceExamples.
use Rattle.pm_examples_values.proofs.FaceExamples.{segment_counts_are_read}
use Rattle.pm_examples_values.proofs.values.example_segment_counts.Goals as goal

pub returns : goal.returns
returns c = segment_counts_are_read
