use Rattle.pm_vector.proofs.Unique.{echelon_is_unique}
use Rattle.pm_vector.proofs.law_echelon_is_unique.Goals as goal

pub returns : goal.returns
returns c = echelon_is_unique
