use Rattle.pm_relations.proofs.Dimensions.{lineality_dim_is_found}
use Rattle.pm_relations.proofs.law_lineality_dim_is_found.Goals as goal

pub returns : goal.returns
returns c = lineality_dim_is_found
