use Rattle.pm_geom.proofs.Spans.{generators_span}
use Rattle.pm_geom.proofs.law_generators_span.Goals as goal

pub returns : goal.returns
returns c = generators_span
