use Rattle.pm_laws_things.proofs.ExistingShapes.{shapes_exist}
use Rattle.pm_laws_things.proofs.building.law_shapes_exist.Goals as goal

pub returns : goal.returns
returns c = shapes_exist
