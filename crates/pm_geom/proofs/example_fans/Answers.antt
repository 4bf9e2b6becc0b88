use Rattle.pm_geom.proofs.SmallFans.{fans_are_read}
use Rattle.pm_geom.proofs.example_fans.Goals as goal

pub returns : goal.returns
returns c = fans_are_read
