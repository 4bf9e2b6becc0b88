use Rattle.pm_examples_values.proofs.CanonicalExamples.{canonical_orders_are_read}
use Rattle.pm_examples_values.proofs.values.example_canonical_orders.Goals as goal

pub returns : goal.returns
returns c = canonical_orders_are_read
