use Rattle.pm_geom.proofs.Spans.{span_is_differences}
use Rattle.pm_geom.proofs.law_span_is_differences.Goals as goal

pub returns : goal.returns
returns c = span_is_differences
