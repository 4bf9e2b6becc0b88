use Rattle.pm_laws_things.proofs.ExistingOthers.{products_exist}
use Rattle.pm_laws_things.proofs.building.law_products_exist.Goals as goal

pub returns : goal.returns
returns c = products_exist
