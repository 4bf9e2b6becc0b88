use Rattle.pm_laws_normal_fans.proofs.OneFan.{one_normal_fan}
use Rattle.pm_laws_normal_fans.proofs.law_one_normal_fan.Goals as goal

pub returns : goal.returns
returns c = one_normal_fan
