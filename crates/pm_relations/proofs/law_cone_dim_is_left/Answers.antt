use Rattle.pm_relations.proofs.Dimensions.{cone_dim_is_left}
use Rattle.pm_relations.proofs.law_cone_dim_is_left.Goals as goal

pub returns : goal.returns
returns c = cone_dim_is_left
