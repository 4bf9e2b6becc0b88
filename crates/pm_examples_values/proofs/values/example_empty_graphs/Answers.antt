-- The example is a lemma of GraphExamples.
use Rattle.pm_examples_values.proofs.GraphExamples.{empty_graphs_are_read}
use Rattle.pm_examples_values.proofs.values.example_empty_graphs.Goals as goal

pub returns : goal.returns
returns c = empty_graphs_are_read
