use Rattle.pm_laws_things.proofs.PyramidLaws.{pyramid_described}
use Rattle.pm_laws_things.proofs.building.law_pyramid_is_described.Goals as goal

pub returns : goal.returns
returns c = pyramid_described
