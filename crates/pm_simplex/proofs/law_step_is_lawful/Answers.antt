use Rattle.pm_simplex.proofs.EvidenceLaws.{step_is_lawful}
use Rattle.pm_simplex.proofs.law_step_is_lawful.Goals as goal

pub returns : goal.returns
returns c = step_is_lawful
