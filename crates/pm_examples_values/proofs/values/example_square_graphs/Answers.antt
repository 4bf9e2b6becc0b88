-- The example is a lemma of SquareGraphs.
use Rattle.pm_examples_values.proofs.SquareGraphs.{square_graphs_are_read}
use Rattle.pm_examples_values.proofs.values.example_square_graphs.Goals as goal

pub returns : goal.returns
returns c = square_graphs_are_read
