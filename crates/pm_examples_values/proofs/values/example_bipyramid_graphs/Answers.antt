-- The example is a lemma of SquareGraphs.
use Rattle.pm_examples_values.proofs.SquareGraphs.{bipyramid_graphs_are_read}
use Rattle.pm_examples_values.proofs.values.example_bipyramid_graphs.Goals as goal

pub returns : goal.returns
returns c = bipyramid_graphs_are_read
