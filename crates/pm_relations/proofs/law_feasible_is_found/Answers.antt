use Rattle.pm_relations.proofs.Dimensions.{feasible_is_found}
use Rattle.pm_relations.proofs.law_feasible_is_found.Goals as goal

pub returns : goal.returns
returns c = feasible_is_found
