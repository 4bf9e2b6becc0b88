use Rattle.pm_relations.proofs.Dimensions.{dimensions_exist}
use Rattle.pm_relations.proofs.law_dimensions_exist.Goals as goal

pub returns : goal.returns
returns c = dimensions_exist
