use Rattle.pm_laws_things.proofs.ExistingOthers.{polars_exist}
use Rattle.pm_laws_things.proofs.building.law_polars_exist.Goals as goal

pub returns : goal.returns
returns c = polars_exist
