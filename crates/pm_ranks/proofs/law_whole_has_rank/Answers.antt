use Rattle.pm_ranks.proofs.Whole.{whole_has_rank}
use Rattle.pm_ranks.proofs.law_whole_has_rank.Goals as goal

pub returns : goal.returns
returns c = whole_has_rank
