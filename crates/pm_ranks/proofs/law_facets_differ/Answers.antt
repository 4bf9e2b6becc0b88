use Rattle.pm_ranks.proofs.Facets.{facets_differ}
use Rattle.pm_ranks.proofs.law_facets_differ.Goals as goal

pub returns : goal.returns
returns c = facets_differ
