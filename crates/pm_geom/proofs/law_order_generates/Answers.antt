use Rattle.pm_geom.proofs.Facets.{order_generates}
use Rattle.pm_geom.proofs.law_order_generates.Goals as goal

pub returns : goal.returns
returns c = order_generates
