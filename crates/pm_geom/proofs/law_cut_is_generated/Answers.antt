use Rattle.pm_geom.proofs.Polar.{cut_is_generated}
use Rattle.pm_geom.proofs.law_cut_is_generated.Goals as goal

pub returns : goal.returns
returns c = cut_is_generated
