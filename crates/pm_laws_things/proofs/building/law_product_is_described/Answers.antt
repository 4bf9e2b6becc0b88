use Rattle.pm_laws_things.proofs.ProductLaws.{product_described}
use Rattle.pm_laws_things.proofs.building.law_product_is_described.Goals as goal

pub returns : goal.returns
returns c = product_described
