-- The example is a lemma of FaceExamples.
use Rattle.pm_examples_values.proofs.FaceExamples.{empty_faces_are_read}
use Rattle.pm_examples_values.proofs.values.example_empty_faces.Goals as goal

pub returns : goal.returns
returns c = empty_faces_are_read
