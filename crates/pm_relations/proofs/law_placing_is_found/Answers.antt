use Rattle.pm_relations.proofs.Triangulations.{placing_is_found}
use Rattle.pm_relations.proofs.law_placing_is_found.Goals as goal

pub returns : goal.returns
returns c = placing_is_found
