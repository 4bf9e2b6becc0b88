use Rattle.pm_geom.proofs.Duality.{infeasible_has_no_point}
use Rattle.pm_geom.proofs.law_infeasible_has_no_point.Goals as goal

pub returns : goal.returns
returns c = infeasible_has_no_point
