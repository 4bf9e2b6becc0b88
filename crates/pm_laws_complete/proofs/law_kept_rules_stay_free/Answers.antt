use Rattle.pm_laws_complete.proofs.Free.{kept_rules_stay_free}
use Rattle.pm_laws_complete.proofs.law_kept_rules_stay_free.Goals as goal

pub returns : goal.returns
returns c = kept_rules_stay_free
