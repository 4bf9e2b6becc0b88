use Rattle.pm_geom.proofs.Lineality.{facet_order_cuts_out}
use Rattle.pm_geom.proofs.law_facet_order_cuts_out.Goals as goal

pub returns : goal.returns
returns c = facet_order_cuts_out
