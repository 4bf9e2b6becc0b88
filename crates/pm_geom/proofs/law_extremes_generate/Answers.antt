use Rattle.pm_geom.proofs.Reduce.{extremes_generate}
use Rattle.pm_geom.proofs.law_extremes_generate.Goals as goal

pub returns : goal.returns
returns c = extremes_generate
