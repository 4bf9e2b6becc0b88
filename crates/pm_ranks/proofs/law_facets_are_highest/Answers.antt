use Rattle.pm_ranks.proofs.Facets.{facets_are_highest}
use Rattle.pm_ranks.proofs.law_facets_are_highest.Goals as goal

pub returns : goal.returns
returns c = facets_are_highest
