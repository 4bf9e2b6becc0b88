use Rattle.pm_laws_things.proofs.ShapeLaws.{cross_described}
use Rattle.pm_laws_things.proofs.building.law_cross_is_described.Goals as goal

pub returns : goal.returns
returns c = cross_described
