use Rattle.pm_relations.proofs.Dimensions.{full_dim_is_found}
use Rattle.pm_relations.proofs.law_full_dim_is_found.Goals as goal

pub returns : goal.returns
returns c = full_dim_is_found
