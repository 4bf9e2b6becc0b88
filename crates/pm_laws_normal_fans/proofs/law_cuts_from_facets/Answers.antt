use Rattle.pm_laws_normal_fans.proofs.IntersectionRows.{cuts_from_facets}
use Rattle.pm_laws_normal_fans.proofs.law_cuts_from_facets.Goals as goal

pub returns : goal.returns
returns c = cuts_from_facets
