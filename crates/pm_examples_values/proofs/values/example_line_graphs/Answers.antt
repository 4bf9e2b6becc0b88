-- The example is a lemma of GraphExamples.
use Rattle.pm_examples_values.proofs.GraphExamples.{line_graphs_are_read}
use Rattle.pm_examples_values.proofs.values.example_line_graphs.Goals as goal

pub returns : goal.returns
returns c = line_graphs_are_read
