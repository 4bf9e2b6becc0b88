use Rattle.pm_relations.proofs.Spans.{pair_spans}
use Rattle.pm_relations.proofs.law_pair_spans.Goals as goal

pub returns : goal.returns
returns c = pair_spans
