use Rattle.pm_ranks.proofs.EdgeFacets.{edges_by_facets}
use Rattle.pm_ranks.proofs.law_edges_by_facets.Goals as goal

pub returns : goal.returns
returns c = edges_by_facets
