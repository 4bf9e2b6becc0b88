use Rattle.pm_client.specs.Fails.{IfOutOfRange}
use Rattle.pm_client.proofs.Failing.{fails_by_inequalities}
use Rattle.pm_client.proofs.FreshOrders.{fresh_kind}
use Rattle.pm_client.proofs.ViewLaws.{has_listed, not_fan, source_named}
use Rattle.pm_client.specs.Sound.{FailsRightly}
use Rattle.pm_clients_geom.proofs.FoundHulls.{echelon_few}
use Rattle.pm_clients_geom.proofs.FoundThinned.{first_rows_of, inequalities_found, second_rows_of, thinned_facets_sound}
use Rattle.pm_clients_geom.proofs.thinning.thin_inequalities_v.Goals as goal
use Rattle.pm_props.specs.Properties.{facets_tag}
use Rattle.pm_props.specs.declared.property.PropId.TheVariants.{AffineHull, Equations, Facets, Inequalities, LinealitySpace, Vertices}
use Rattle.pm_props.specs.declared.property.PropId.{PropId}
use Rattle.std.proofs.Common.{refl, subst, sym, ◌∙◌}
use Rattle.std.proofs.lemmas.Result.{err_from_is_err_and}
use Rattle.std.specs.Prelude.{List, [], ◌∷◌}
use Rattle.pm_client.specs.declared.ClientFail.{ClientFail}
use Rattle.pm_clients_geom.proofs.LostThinning.{inequalities_lost}
use Rattle.pm_clients_geom.specs.Thinned.{ReadsLostRows}

abbrev sources : List PropId
sources = Inequalities ∷ Equations ∷ Vertices ∷ LinealitySpace ∷ []

abbrev targets : List PropId
targets = Facets ∷ AffineHull ∷ []

pub read_parts-requires-clause-first : goal.read_parts-requires-clause-first
read_parts-requires-clause-first c = has_listed _ sources Equations c.requires.kind.sources

pub read_parts-requires-clause-second : goal.read_parts-requires-clause-second
read_parts-requires-clause-second c = has_listed _ sources Inequalities c.requires.kind.sources

pub read_parts-requires-2-clause-first : goal.read_parts-requires-2-clause-first
read_parts-requires-2-clause-first c = has_listed _ sources LinealitySpace c.requires.kind.sources

pub read_parts-requires-2-clause-second : goal.read_parts-requires-2-clause-second
read_parts-requires-2-clause-second c = has_listed _ sources Vertices c.requires.kind.sources

pub facets_by_incidence-requires-clause-no_fan : goal.facets_by_incidence-requires-clause-no_fan
facets_by_incidence-requires-clause-no_fan c = λ fan.
    not_fan c.args.view.now Inequalities c.of.ensures.view (source_named c.args.view.now.kind Inequalities (has_listed _ sources Inequalities c.requires.kind.sources)) refl refl (sym c.of.ensures.value ∙ fan)

pub returns-in_err-found-clause-failed : goal.returns-in_err-found-clause-failed
returns-in_err-found-clause-failed c =
    let v = c.args.view.now in
    let w = err_from_is_err_and c.from_residual-in_err-found.result c.from_residual-in_err-found.ensures.1 in
    rw w.1 (subst (FailsRightly v) (sym w.2)
    (fails_by_inequalities v c.requires.kind.lists c.requires.kind.multiplies c.requires.kind.counts c.in_ok-halves.halves.first.items c.in_ok-halves.halves.second.items c.in_ok-rays.rays.second.items c.in_err-found.field-0.0
    (first_rows_of c.in_ok-halves.ensures.read) (second_rows_of c.in_ok-halves.ensures.read) (second_rows_of c.in_ok-rays.ensures.read) c.in_ok-halves.ensures.second_few.few
    (rw (c.of.ensures.value, c.deref.ensures.value, c.deref-2.ensures.value, c.cols.ensures.value) at c.in_err-found.ensures.failed)))

pub put_facets-requires-clause-facets : goal.put_facets-requires-clause-facets
put_facets-requires-clause-facets c = record { cols = rw c.cols.ensures.value at c.in_ok-found.ensures.cols; few = c.in_ok-found.ensures.few }

pub put_facets-requires-clause-hull : goal.put_facets-requires-clause-hull
put_facets-requires-clause-hull c =
    let b = rw c.cols.ensures.value at c.in_ok-found.ensures.echelon in
    echelon_few c.args.view.now c.cols.ensures.view c.in_ok-found.found.hull.items b.0 b.1

pub returns-in_err-found-clause-lost : goal.returns-in_err-found-clause-lost
returns-in_err-found-clause-lost c = λ wide.
    let v = c.args.view.now in
    let w = err_from_is_err_and c.from_residual-in_err-found.result c.from_residual-in_err-found.ensures.1 in
    rw w.1 (subst (λ (f : ClientFail). IfOutOfRange f (ReadsLostRows v Equations Inequalities Vertices)) (sym w.2)
    (inequalities_lost v c.in_ok-halves.halves.first.items c.in_ok-halves.halves.second.items c.in_ok-rays.rays.second.items c.in_err-found.field-0.0
    (first_rows_of c.in_ok-halves.ensures.read) (second_rows_of c.in_ok-halves.ensures.read) (second_rows_of c.in_ok-rays.ensures.read)
    (rw (c.of.ensures.value, c.deref.ensures.value, c.deref-2.ensures.value, c.cols.ensures.value) at c.in_err-found.ensures.failed)
    (rw (c.of.ensures.value, c.deref.ensures.value, c.deref-2.ensures.value, c.cols.ensures.value) at (c.in_err-found.ensures.lost wide))))

pub returns-clause-sound : goal.returns-clause-sound
returns-clause-sound c =
    let v = c.args.view.now in
    let view = c.cols.ensures.view in
    let targets_are = c.requires.kind.targets in
    let sources_are = c.requires.kind.sources in
    let no_fan = not_fan v Inequalities view (source_named v.kind Inequalities (has_listed _ sources Inequalities sources_are)) refl refl in
    let fresh = fresh_kind facets_tag v.kind targets sources Facets targets_are sources_are refl refl refl in
    let g = rw (c.of.ensures.value, c.deref.ensures.value, c.deref-2.ensures.value, c.cols.ensures.value) at c.in_ok-found.ensures.facets in
    thinned_facets_sound v view targets_are fresh c.in_ok-found.found.facets.items c.in_ok-found.found.hull.items
    (inequalities_found v no_fan c.in_ok-halves.halves.first.items c.in_ok-halves.halves.second.items c.in_ok-rays.rays.first.items c.in_ok-rays.rays.second.items c.in_ok-found.found.facets.items c.in_ok-found.found.hull.items
    c.in_ok-halves.ensures.read c.in_ok-rays.ensures.read (g c.in_ok-rays.ensures.first_few.cols))
    c.put_facets.new.draft c.in_ok-put_facets.ensures.put
