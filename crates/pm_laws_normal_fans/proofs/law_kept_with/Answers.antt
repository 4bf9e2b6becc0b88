use Rattle.pm_laws_normal_fans.proofs.KeptSteps.{kept_with}
use Rattle.pm_laws_normal_fans.proofs.law_kept_with.Goals as goal

pub returns : goal.returns
returns c = kept_with
