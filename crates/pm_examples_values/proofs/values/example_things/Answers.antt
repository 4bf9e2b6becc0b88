use Rattle.pm_examples_values.proofs.ThingExamples.{things_are_read}
use Rattle.pm_examples_values.proofs.values.example_things.Goals as goal

pub returns : goal.returns
returns c = things_are_read
