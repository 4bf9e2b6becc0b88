use Rattle.pm_ranks.proofs.Facets.{ridges_by_facets}
use Rattle.pm_ranks.proofs.law_ridges_by_facets.Goals as goal

pub returns : goal.returns
returns c = ridges_by_facets
