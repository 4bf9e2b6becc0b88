use Rattle.pm_laws_normal_fans.proofs.SumFans.{normal_of_sum}
use Rattle.pm_laws_normal_fans.proofs.law_normal_of_sum.Goals as goal

pub returns : goal.returns
returns c = normal_of_sum
