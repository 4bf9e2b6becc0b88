use Rattle.pm_examples_values.proofs.CanonicalExamples.{canonical_lines_are_read}
use Rattle.pm_examples_values.proofs.values.example_canonical_lines.Goals as goal

pub returns : goal.returns
returns c = canonical_lines_are_read
