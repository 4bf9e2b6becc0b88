use Rattle.pm_laws_normal_fans.proofs.RefinedRays.{inclusion_by_products}
use Rattle.pm_laws_normal_fans.proofs.law_inclusion_by_products.Goals as goal

pub returns : goal.returns
returns c = inclusion_by_products
