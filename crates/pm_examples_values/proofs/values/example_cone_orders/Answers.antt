use Rattle.pm_examples_values.proofs.ThingExamples.{cone_orders_are_read}
use Rattle.pm_examples_values.proofs.values.example_cone_orders.Goals as goal

pub returns : goal.returns
returns c = cone_orders_are_read
