use Rattle.pm_relations.proofs.Dimensions.{dimensions_are_determined}
use Rattle.pm_relations.proofs.law_dimensions_are_determined.Goals as goal

pub returns : goal.returns
returns c = dimensions_are_determined
