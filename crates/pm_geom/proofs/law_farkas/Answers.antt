use Rattle.pm_geom.proofs.Polar.{farkas}
use Rattle.pm_geom.proofs.law_farkas.Goals as goal

pub returns : goal.returns
returns c = farkas
