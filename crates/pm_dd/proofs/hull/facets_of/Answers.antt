use Rattle.pm_dd.proofs.HullLaws.{facets_of}
use Rattle.pm_dd.proofs.hull.facets_of.Goals as goal

pub returns-clause-facets : goal.returns-clause-facets
returns-clause-facets c = facets_of c.args.cols c.args.rays.now c.args.lineality.now c.requires.ray_cols c.requires.line_cols c.in_ok-dual.ensures.generators
