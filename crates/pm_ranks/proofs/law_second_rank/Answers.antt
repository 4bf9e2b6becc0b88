use Rattle.pm_ranks.proofs.Whole.{second_rank}
use Rattle.pm_ranks.proofs.law_second_rank.Goals as goal

pub returns : goal.returns
returns c = second_rank
