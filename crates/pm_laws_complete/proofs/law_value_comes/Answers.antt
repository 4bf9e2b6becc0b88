use Rattle.pm_laws_complete.proofs.Coming.{value_comes}
use Rattle.pm_laws_complete.proofs.law_value_comes.Goals as goal

pub returns : goal.returns
returns c = value_comes
