use Rattle.pm_dd.proofs.Outcomes.{ok_weaker}
use Rattle.pm_incidence.proofs.TurnedSets.{length_turned, turned_few, turned_incidence}
use Rattle.pm_incidence.proofs.from_sets.vertices_from_sets.Goals as goal
use Rattle.std.proofs.Common.{◌∙◌}

pub rays_of_sets-requires-clause-few_places : goal.rays_of_sets-requires-clause-few_places
rays_of_sets-requires-clause-few_places c = turned_few (λ r. r.items) c.args.s.now c.rows.result.now (c.rows.ensures ∙ c.in_ok-sets.ensures) c.requires.few_sets

pub returns-clause-as_many : goal.returns-clause-as_many
returns-clause-as_many c =
    ok_weaker c.rays_of_sets.result _ _ (λ r h. h ∙ length_turned (λ r. r.items) c.args.s.now c.rows.result.now (c.rows.ensures ∙ c.in_ok-sets.ensures)) c.rays_of_sets.ensures.as_many

pub returns-clause-rays : goal.returns-clause-rays
returns-clause-rays c =
    let rays = rw (c.deref.ensures.value, c.deref-2.ensures.value, c.rows.ensures, c.in_ok-sets.ensures) at c.rays_of_sets.ensures.rays in
    ok_weaker c.rays_of_sets.result _ _ (λ r h V o many i. h V o (turned_incidence c.args.f.now.facets.items V c.args.s.now many i)) rays
