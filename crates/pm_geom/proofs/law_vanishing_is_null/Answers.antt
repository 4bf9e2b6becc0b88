use Rattle.pm_geom.proofs.Spans.{vanishing_is_null}
use Rattle.pm_geom.proofs.law_vanishing_is_null.Goals as goal

pub returns : goal.returns
returns c = vanishing_is_null
