use Rattle.pm_relations.proofs.Spans.{hull_is_found}
use Rattle.pm_relations.proofs.law_hull_is_found.Goals as goal

pub returns : goal.returns
returns c = hull_is_found
