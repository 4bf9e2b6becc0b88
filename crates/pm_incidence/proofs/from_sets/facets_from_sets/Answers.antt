use Rattle.pm_incidence.proofs.Polarity.{canonical_valid, order_cut}
use Rattle.pm_incidence.proofs.TurnedSets.{items_few}
use Rattle.pm_incidence.proofs.from_sets.facets_from_sets.Goals as goal

pub rays_of_sets-requires-clause-few_places : goal.rays_of_sets-requires-clause-few_places
rays_of_sets-requires-clause-few_places c = items_few (λ r. r.items) c.args.s.now.rows c.rows.result.now c.rows.ensures c.requires.few_places

pub returns-in-Ok-clause-facets : goal.returns-in-Ok-clause-facets
returns-in-Ok-clause-facets c F o i =
    let found = rw (c.deref.ensures.value, c.deref-2.ensures.value, c.rows.ensures) at c.in-Ok.ensures.rays in
    canonical_valid c.args.cols c.args.g.now.rays.items c.args.g.now.lineality.items c.requires.ray_cols c.requires.line_cols F c.in-Ok.rows.items (found F (order_cut c.args.cols c.args.g.now.rays.items c.args.g.now.lineality.items c.requires.ray_cols c.requires.line_cols F o) i)

pub returns-in-Err-clause-failed : goal.returns-in-Err-clause-failed
returns-in-Err-clause-failed c =
    let failed = rw (c.deref.ensures.value, c.deref-2.ensures.value, c.rows.ensures) at c.in-Err.ensures.failed in
    c.exchanged.ensures.sets c.args.cols c.args.g.now.lineality.items c.args.g.now.rays.items c.args.s.now.rows failed
