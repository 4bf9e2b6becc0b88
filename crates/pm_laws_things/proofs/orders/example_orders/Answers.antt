use Rattle.pm_laws_things.proofs.OrderExamples.{orders_read}
use Rattle.pm_laws_things.proofs.orders.example_orders.Goals as goal

pub returns : goal.returns
returns c = orders_read
