-- The example is a lemma of FaceExamples.
use Rattle.pm_examples_values.proofs.FaceExamples.{line_faces_are_read}
use Rattle.pm_examples_values.proofs.values.example_line_faces.Goals as goal

pub returns : goal.returns
returns c = line_faces_are_read
