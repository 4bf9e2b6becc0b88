use Rattle.pm_examples_values.proofs.ThingExamples.{fan_values_are_read}
use Rattle.pm_examples_values.proofs.values.example_fan_values.Goals as goal

pub returns : goal.returns
returns c = fan_values_are_read
