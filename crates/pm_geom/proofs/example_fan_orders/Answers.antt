use Rattle.pm_geom.proofs.SmallFans.{fan_orders_are_read}
use Rattle.pm_geom.proofs.example_fan_orders.Goals as goal

pub returns : goal.returns
returns c = fan_orders_are_read
