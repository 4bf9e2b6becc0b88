use Rattle.pm_laws_normal_fans.proofs.KeptSteps.{kept_without}
use Rattle.pm_laws_normal_fans.proofs.law_kept_without.Goals as goal

pub returns : goal.returns
returns c = kept_without
