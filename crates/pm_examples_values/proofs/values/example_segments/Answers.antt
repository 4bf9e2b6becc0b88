use Rattle.pm_examples_values.proofs.RayExamples.{segments_are_read}
use Rattle.pm_examples_values.proofs.values.example_segments.Goals as goal

pub returns : goal.returns
returns c = segments_are_read
