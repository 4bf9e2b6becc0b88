use Rattle.pm_geom.proofs.Polar.{generated_is_cut}
use Rattle.pm_geom.proofs.law_generated_is_cut.Goals as goal

pub returns : goal.returns
returns c = generated_is_cut
