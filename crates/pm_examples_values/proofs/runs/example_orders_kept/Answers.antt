use Rattle.pm_examples_values.proofs.Conditions.{orders_are_kept}
use Rattle.pm_examples_values.proofs.runs.example_orders_kept.Goals as goal

pub returns : goal.returns
returns c = orders_are_kept
