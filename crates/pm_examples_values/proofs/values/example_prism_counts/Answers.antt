use Rattle.pm_examples_values.proofs.PrismExamples.{prism_counts_are_read}
use Rattle.pm_examples_values.proofs.values.example_prism_counts.Goals as goal

pub returns : goal.returns
returns c = prism_counts_are_read
