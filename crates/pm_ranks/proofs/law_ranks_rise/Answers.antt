use Rattle.pm_ranks.proofs.RankLaws.{ranks_rise}
use Rattle.pm_ranks.proofs.law_ranks_rise.Goals as goal

pub returns : goal.returns
returns c = ranks_rise
