use Rattle.pm_relations.proofs.Spans.{lineality_is_found}
use Rattle.pm_relations.proofs.law_lineality_is_found.Goals as goal

pub returns : goal.returns
returns c = lineality_is_found
