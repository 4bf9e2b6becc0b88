use Rattle.pm_geom.proofs.Facets.{facet_rows_cut_out}
use Rattle.pm_geom.proofs.law_facet_rows_cut_out.Goals as goal

pub returns : goal.returns
returns c = facet_rows_cut_out
