use Rattle.pm_relations.proofs.Found.{echelon_is_right}
use Rattle.pm_relations.proofs.law_echelon_is_right.Goals as goal

pub returns : goal.returns
returns c = echelon_is_right
