use Rattle.pm_laws_things.proofs.ExistingFans.{normal_fans_exist}
use Rattle.pm_laws_things.proofs.fans.law_normal_fans_exist.Goals as goal

pub returns : goal.returns
returns c = normal_fans_exist
