use Rattle.pm_ranks.proofs.Whole.{first_rank}
use Rattle.pm_ranks.proofs.law_first_rank.Goals as goal

pub returns : goal.returns
returns c = first_rank
