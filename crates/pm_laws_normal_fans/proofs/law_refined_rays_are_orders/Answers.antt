use Rattle.pm_laws_normal_fans.proofs.RefinedRays.{refined_rays_are_orders}
use Rattle.pm_laws_normal_fans.proofs.law_refined_rays_are_orders.Goals as goal

pub returns : goal.returns
returns c = refined_rays_are_orders
