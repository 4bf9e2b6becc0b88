use Rattle.pm_relations.proofs.Dimensions.{pointed_is_found}
use Rattle.pm_relations.proofs.law_pointed_is_found.Goals as goal

pub returns : goal.returns
returns c = pointed_is_found
