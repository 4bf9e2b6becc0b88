-- The example is a lemma of FaceExamples.
use Rattle.pm_examples_values.proofs.FaceExamples.{segment_faces_are_read}
use Rattle.pm_examples_values.proofs.values.example_segment_faces.Goals as goal

pub returns : goal.returns
returns c = segment_faces_are_read
