use Rattle.pm_vector.proofs.Unique.{reduced_is_unique}
use Rattle.pm_vector.proofs.law_reduced_is_unique.Goals as goal

pub returns : goal.returns
returns c = reduced_is_unique
