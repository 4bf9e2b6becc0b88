use Rattle.pm_relations.proofs.Spans.{vertices_span}
use Rattle.pm_relations.proofs.law_vertices_span.Goals as goal

pub returns : goal.returns
returns c = vertices_span
