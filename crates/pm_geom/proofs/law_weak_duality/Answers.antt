use Rattle.pm_geom.proofs.Duality.{weak_duality}
use Rattle.pm_geom.proofs.law_weak_duality.Goals as goal

pub returns : goal.returns
returns c = weak_duality
