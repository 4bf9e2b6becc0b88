use Rattle.pm_laws_things.proofs.Graphs.{graphs_of_all_orders}
use Rattle.pm_laws_things.proofs.orders.law_graphs_of_all_orders.Goals as goal

pub returns : goal.returns
returns c = graphs_of_all_orders
