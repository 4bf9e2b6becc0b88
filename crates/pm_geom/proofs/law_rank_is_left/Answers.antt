use Rattle.pm_geom.proofs.Dimension.{rank_is_left}
use Rattle.pm_geom.proofs.law_rank_is_left.Goals as goal

pub returns : goal.returns
returns c = rank_is_left
