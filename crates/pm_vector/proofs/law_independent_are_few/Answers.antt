use Rattle.pm_vector.proofs.Rank.{independent_are_few}
use Rattle.pm_vector.proofs.law_independent_are_few.Goals as goal

pub returns : goal.returns
returns c = independent_are_few
