use Rattle.pm_laws_normal_fans.proofs.Generate.{sum_is_generated}
use Rattle.pm_laws_normal_fans.proofs.law_sum_is_generated.Goals as goal

pub returns : goal.returns
returns c = sum_is_generated
