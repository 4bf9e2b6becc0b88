use Rattle.pm_clients_geom.proofs.RightRows.{feasible_has_point}
use Rattle.pm_clients_geom.proofs.law_feasible_has_point.Goals as goal

pub returns : goal.returns
returns c = feasible_has_point
