use Rattle.pm_geom.proofs.Polar.{membership_decided}
use Rattle.pm_geom.proofs.law_membership_decided.Goals as goal

pub returns : goal.returns
returns c = membership_decided
