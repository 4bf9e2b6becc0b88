use Rattle.pm_laws_things.proofs.OrdersExist.{some_orders_are_all}
use Rattle.pm_laws_things.proofs.orders.law_some_orders_are_all.Goals as goal

pub returns : goal.returns
returns c = some_orders_are_all
