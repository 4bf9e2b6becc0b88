use Rattle.pm_geom.proofs.Duality.{optimum_is_maximum}
use Rattle.pm_geom.proofs.law_optimum_is_maximum.Goals as goal

pub returns : goal.returns
returns c = optimum_is_maximum
