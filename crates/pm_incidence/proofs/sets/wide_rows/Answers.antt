use Rattle.pm_incidence.proofs.Products.{wide_one}
use Rattle.pm_incidence.proofs.sets.wide_rows.Goals as goal

pub returns : goal.returns
returns c = wide_one c.args.facet.now c.args.vertex.now c.in_ok-copy.field-0 c.in_ok-copy-2.field-0 c.in_ok-copy.ensures c.in_ok-copy-2.ensures c.requires
