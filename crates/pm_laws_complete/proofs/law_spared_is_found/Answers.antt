use Rattle.pm_laws_complete.proofs.SparedLaws.{spared_is_found}
use Rattle.pm_laws_complete.proofs.law_spared_is_found.Goals as goal

pub returns : goal.returns
returns c = spared_is_found
