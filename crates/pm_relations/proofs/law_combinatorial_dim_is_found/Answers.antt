use Rattle.pm_relations.proofs.Dimensions.{combinatorial_dim_is_found}
use Rattle.pm_relations.proofs.law_combinatorial_dim_is_found.Goals as goal

pub returns : goal.returns
returns c = combinatorial_dim_is_found
