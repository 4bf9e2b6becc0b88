use Rattle.pm_laws_complete.proofs.Coming.{give_comes}
use Rattle.pm_laws_complete.proofs.law_give_comes.Goals as goal

pub returns : goal.returns
returns c = give_comes
