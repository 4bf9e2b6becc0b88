use Rattle.pm_ranks.proofs.Facets.{each_has_rank}
use Rattle.pm_ranks.proofs.law_each_has_rank.Goals as goal

pub returns : goal.returns
returns c = each_has_rank
