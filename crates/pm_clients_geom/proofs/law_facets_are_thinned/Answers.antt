use Rattle.pm_clients_geom.proofs.RightRows.{facets_are_thinned}
use Rattle.pm_clients_geom.proofs.law_facets_are_thinned.Goals as goal

pub returns : goal.returns
returns c = facets_are_thinned
