use Rattle.pm_vector.proofs.Rank.{rank_is_determined}
use Rattle.pm_vector.proofs.law_rank_is_determined.Goals as goal

pub returns : goal.returns
returns c = rank_is_determined
