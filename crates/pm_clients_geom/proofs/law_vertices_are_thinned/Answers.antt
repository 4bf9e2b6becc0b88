use Rattle.pm_clients_geom.proofs.RightRows.{vertices_are_thinned}
use Rattle.pm_clients_geom.proofs.law_vertices_are_thinned.Goals as goal

pub returns : goal.returns
returns c = vertices_are_thinned
