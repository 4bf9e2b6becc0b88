use Rattle.pm_geom.proofs.Spans.{order_spans}
use Rattle.pm_geom.proofs.law_order_spans.Goals as goal

pub returns : goal.returns
returns c = order_spans
