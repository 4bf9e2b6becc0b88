use Rattle.pm_examples_values.proofs.ThingExamples.{fan_orders_are_read}
use Rattle.pm_examples_values.proofs.values.example_fan_orders.Goals as goal

pub returns : goal.returns
returns c = fan_orders_are_read
