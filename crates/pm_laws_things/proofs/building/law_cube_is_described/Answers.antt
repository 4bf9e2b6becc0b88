use Rattle.pm_laws_things.proofs.ShapeLaws.{cube_described}
use Rattle.pm_laws_things.proofs.building.law_cube_is_described.Goals as goal

pub returns : goal.returns
returns c = cube_described
