use Rattle.pm_laws_normal_fans.proofs.FacetFans.{normal_fan_of_facets}
use Rattle.pm_laws_normal_fans.proofs.law_normal_fan_of_facets.Goals as goal

pub returns : goal.returns
returns c = normal_fan_of_facets
