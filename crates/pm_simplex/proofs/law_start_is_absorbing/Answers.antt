use Rattle.pm_simplex.proofs.StartDictionary.{start_is_absorbing}
use Rattle.pm_simplex.proofs.law_start_is_absorbing.Goals as goal

pub returns : goal.returns
returns c = start_is_absorbing
