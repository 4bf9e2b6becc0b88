use Rattle.pm_laws_things.proofs.OrdersExist.{orders_exist}
use Rattle.pm_laws_things.proofs.orders.law_orders_exist.Goals as goal

pub returns : goal.returns
returns c = orders_exist
