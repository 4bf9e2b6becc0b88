use Rattle.pm_relations.proofs.FirstEntries.{bounded_is_found}
use Rattle.pm_relations.proofs.law_bounded_is_found.Goals as goal

pub returns : goal.returns
returns c = bounded_is_found
