use Rattle.pm_geom.proofs.Duality.{direction_is_without_bound}
use Rattle.pm_geom.proofs.law_direction_is_without_bound.Goals as goal

pub returns : goal.returns
returns c = direction_is_without_bound
