use Rattle.pm_geom.proofs.Lineality.{lineality_is_null}
use Rattle.pm_geom.proofs.law_lineality_is_null.Goals as goal

pub returns : goal.returns
returns c = lineality_is_null
