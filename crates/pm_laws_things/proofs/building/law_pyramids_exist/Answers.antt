use Rattle.pm_laws_things.proofs.ExistingOthers.{pyramids_exist}
use Rattle.pm_laws_things.proofs.building.law_pyramids_exist.Goals as goal

pub returns : goal.returns
returns c = pyramids_exist
