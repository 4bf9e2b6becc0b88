use Rattle.pm_laws_complete.proofs.SparedLaws.{spared_give_comes}
use Rattle.pm_laws_complete.proofs.law_spared_give_comes.Goals as goal

pub returns : goal.returns
returns c = spared_give_comes
