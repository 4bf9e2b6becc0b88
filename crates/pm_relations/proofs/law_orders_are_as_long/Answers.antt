use Rattle.pm_relations.proofs.Orders.{as_many_facets, as_many_rays}
use Rattle.pm_relations.proofs.law_orders_are_as_long.Goals as goal

pub returns : goal.returns
returns c = λ t o p a b. (as_many_rays t o p a b, as_many_facets t o p a b)
