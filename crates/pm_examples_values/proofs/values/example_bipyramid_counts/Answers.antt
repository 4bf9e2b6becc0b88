use Rattle.pm_examples_values.proofs.BipyramidExamples.{bipyramid_counts_are_read}
use Rattle.pm_examples_values.proofs.values.example_bipyramid_counts.Goals as goal

pub returns : goal.returns
returns c = bipyramid_counts_are_read
