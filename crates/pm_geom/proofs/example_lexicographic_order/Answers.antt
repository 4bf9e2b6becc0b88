use Rattle.pm_geom.proofs.SmallRanks.{order_is_read}
use Rattle.pm_geom.proofs.example_lexicographic_order.Goals as goal

pub returns : goal.returns
returns c = order_is_read
