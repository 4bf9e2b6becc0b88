-- The example is a lemma of SquareFaces.
use Rattle.pm_examples_values.proofs.SquareFaces.{square_faces_are_read}
use Rattle.pm_examples_values.proofs.values.example_square_faces.Goals as goal

pub returns : goal.returns
returns c = square_faces_are_read
