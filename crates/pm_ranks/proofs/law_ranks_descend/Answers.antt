use Rattle.pm_ranks.proofs.RankLaws.{ranks_descend}
use Rattle.pm_ranks.proofs.law_ranks_descend.Goals as goal

pub returns : goal.returns
returns c = ranks_descend
