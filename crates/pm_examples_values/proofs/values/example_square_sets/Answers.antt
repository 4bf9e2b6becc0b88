-- The example is a lemma of Square.
use Rattle.pm_examples_values.proofs.Square.{square_sets_are_read}
use Rattle.pm_examples_values.proofs.values.example_square_sets.Goals as goal

pub returns : goal.returns
returns c = square_sets_are_read
