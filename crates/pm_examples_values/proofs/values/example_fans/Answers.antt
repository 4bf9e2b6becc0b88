use Rattle.pm_examples_values.proofs.ThingExamples.{fans_are_read}
use Rattle.pm_examples_values.proofs.values.example_fans.Goals as goal

pub returns : goal.returns
returns c = fans_are_read
