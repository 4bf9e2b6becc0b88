use Rattle.pm_relations.proofs.FirstEntries.{centered_is_found}
use Rattle.pm_relations.proofs.law_centered_is_found.Goals as goal

pub returns : goal.returns
returns c = centered_is_found
