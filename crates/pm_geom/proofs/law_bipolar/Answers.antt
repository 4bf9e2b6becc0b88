use Rattle.pm_geom.proofs.Polar.{bipolar}
use Rattle.pm_geom.proofs.law_bipolar.Goals as goal

pub returns : goal.returns
returns c = bipolar
