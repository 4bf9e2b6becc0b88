use Rattle.pm_vector.proofs.Spans.{span_is_kept}
use Rattle.pm_vector.proofs.law_span_is_kept.Goals as goal

pub returns : goal.returns
returns c = span_is_kept
