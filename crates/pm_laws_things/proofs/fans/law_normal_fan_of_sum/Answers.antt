use Rattle.pm_laws_things.proofs.SumFans.{normal_fan_of_sum}
use Rattle.pm_laws_things.proofs.fans.law_normal_fan_of_sum.Goals as goal

pub returns : goal.returns
returns c = normal_fan_of_sum
