-- The example is a lemma of FaceExamples.
use Rattle.pm_examples_values.proofs.FaceExamples.{h_vectors_are_short}
use Rattle.pm_examples_values.proofs.values.example_short_h_vectors.Goals as goal

pub returns : goal.returns
returns c = h_vectors_are_short
