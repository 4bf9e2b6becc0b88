use Rattle.pm_geom.proofs.Dimension.{not_zero_by_rank}
use Rattle.pm_geom.proofs.law_not_zero_by_rank.Goals as goal

pub returns : goal.returns
returns c = not_zero_by_rank
