use Rattle.pm_laws_things.proofs.ShapeLaws.{cyclic_described}
use Rattle.pm_laws_things.proofs.building.law_cyclic_is_described.Goals as goal

pub returns : goal.returns
returns c = cyclic_described
