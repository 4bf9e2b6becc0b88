use Rattle.pm_laws_things.proofs.ShapeLaws.{simplex_described}
use Rattle.pm_laws_things.proofs.building.law_simplex_is_described.Goals as goal

pub returns : goal.returns
returns c = simplex_described
