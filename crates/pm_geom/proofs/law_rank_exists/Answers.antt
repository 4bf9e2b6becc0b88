use Rattle.pm_geom.proofs.Dimension.{rank_exists}
use Rattle.pm_geom.proofs.law_rank_exists.Goals as goal

pub returns : goal.returns
returns c = rank_exists
