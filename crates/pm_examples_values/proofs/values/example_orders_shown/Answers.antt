use Rattle.pm_examples_values.proofs.OrderExamples.{orders_are_shown}
use Rattle.pm_examples_values.proofs.values.example_orders_shown.Goals as goal

pub returns : goal.returns
returns c = orders_are_shown
