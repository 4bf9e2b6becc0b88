use Rattle.pm_laws_things.proofs.PolarLaws.{polar_described}
use Rattle.pm_laws_things.proofs.building.law_polar_is_described.Goals as goal

pub returns : goal.returns
returns c = polar_described
