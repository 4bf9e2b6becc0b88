use Rattle.pm_laws_things.proofs.ExistingSums.{sums_exist}
use Rattle.pm_laws_things.proofs.building.law_sums_exist.Goals as goal

pub returns : goal.returns
returns c = sums_exist
