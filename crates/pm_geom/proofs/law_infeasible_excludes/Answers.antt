use Rattle.pm_geom.proofs.Duality.{infeasible_excludes}
use Rattle.pm_geom.proofs.law_infeasible_excludes.Goals as goal

pub returns : goal.returns
returns c = infeasible_excludes
