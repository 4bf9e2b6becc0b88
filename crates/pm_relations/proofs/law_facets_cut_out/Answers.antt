use Rattle.pm_relations.proofs.Twins.{facets_cut_out}
use Rattle.pm_relations.proofs.law_facets_cut_out.Goals as goal

pub returns : goal.returns
returns c = facets_cut_out
