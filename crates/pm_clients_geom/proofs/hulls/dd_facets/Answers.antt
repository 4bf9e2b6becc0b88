use Rattle.pm_client.specs.Fails.{IfOutOfRange}
use Rattle.pm_client.proofs.Failing.{fails_by_parts}
use Rattle.pm_client.proofs.ViewLaws.{has_listed}
use Rattle.pm_client.specs.Sound.{FailsRightly}
use Rattle.pm_client.specs.declared.ClientFail.{ClientFail}
use Rattle.pm_clients_geom.proofs.FoundHulls.{facets_sound, lines_few, parts_of_generators}
use Rattle.pm_clients_geom.proofs.LostParts.{parts_lost}
use Rattle.pm_clients_geom.proofs.RowLists.{first_source, second_source}
use Rattle.pm_clients_geom.proofs.hulls.dd_facets.Goals as goal
use Rattle.pm_clients_geom.specs.Hulls.{ReadsLostParts}
use Rattle.pm_relations.proofs.Hulls.{order_cols}
use Rattle.pm_props.specs.declared.property.PropId.TheVariants.{AffineHull, Facets}
use Rattle.pm_props.specs.declared.property.PropId.{PropId}
use Rattle.std.proofs.Common.{ap, subst, sym, ◌∙◌}
use Rattle.std.proofs.lemmas.Result.{err_from_is_err_and}
use Rattle.std.specs.Prelude.{List, [], ◌∷◌}

abbrev targets : List PropId
targets = Facets ∷ AffineHull ∷ []

pub put_hull-requires-clause-target : goal.put_hull-requires-clause-target
put_hull-requires-clause-target c = has_listed _ targets Facets (ap (λ d. d.kind.targets) c.requires.empty ∙ c.requires.kind.targets)

pub put_hull-requires-clause-hull_target : goal.put_hull-requires-clause-hull_target
put_hull-requires-clause-hull_target c = has_listed _ targets AffineHull (ap (λ d. d.kind.targets) c.requires.empty ∙ c.requires.kind.targets)

pub put_hull-requires-clause-facet_cols : goal.put_hull-requires-clause-facet_cols
put_hull-requires-clause-facet_cols c =
    let g = rw c.cols.ensures.value at c.in_ok-found.ensures.facets in
    rw (c.deref-3.ensures.value, c.cols-2.ensures.value) (order_cols c.args.view.now.cols _ c.in_ok-found.found.facets.items g.order)

pub returns-in_err-found-clause-failed : goal.returns-in_err-found-clause-failed
returns-in_err-found-clause-failed c =
    let v = c.args.view.now in
    let kind = c.requires.kind in
    let w = err_from_is_err_and c.from_residual-in_err-found.result c.from_residual-in_err-found.ensures.1 in
    rw w.1 (subst (FailsRightly v) (sym w.2)
    (fails_by_parts v kind.doubles kind.lists c.in_ok-parts.parts.first.items c.in_ok-parts.parts.second.items c.in_err-found.field-0.0
    (parts_of_generators v c.args.first c.args.second c.in_ok-parts.parts.first.items c.in_ok-parts.parts.second.items kind.parts kind.generators c.in_ok-parts.ensures.read)
    (rw (c.deref.ensures.value, c.deref-2.ensures.value, c.cols.ensures.value) at c.in_err-found.ensures.shown)))

pub returns-in_err-found-clause-lost : goal.returns-in_err-found-clause-lost
returns-in_err-found-clause-lost c = λ e.
    let v = c.args.view.now in
    let kind = c.requires.kind in
    let w = err_from_is_err_and c.from_residual-in_err-found.result c.from_residual-in_err-found.ensures.1 in
    rw w.1 (subst (λ (f : ClientFail). IfOutOfRange f (ReadsLostParts v)) (sym w.2)
    (parts_lost v c.in_ok-parts.parts.first.items c.in_ok-parts.parts.second.items c.in_err-found.field-0.0
    (parts_of_generators v c.args.first c.args.second c.in_ok-parts.parts.first.items c.in_ok-parts.parts.second.items kind.parts kind.generators c.in_ok-parts.ensures.read)
    (rw (c.deref.ensures.value, c.deref-2.ensures.value, c.cols.ensures.value) at c.in_err-found.ensures.shown)
    (rw (c.deref.ensures.value, c.deref-2.ensures.value, c.cols.ensures.value) at (c.in_err-found.ensures.lost e))))

pub returns-clause-sound : goal.returns-clause-sound
returns-clause-sound c =
    let v = c.args.view.now in
    let view = c.cols.ensures.view in
    let g = rw (c.deref.ensures.value, c.deref-2.ensures.value, c.cols.ensures.value) at c.in_ok-found.ensures.facets in
    facets_sound v view c.args.first c.args.second c.requires.kind c.in_ok-parts.parts.first.items c.in_ok-parts.parts.second.items c.in_ok-found.found.facets.items c.in_ok-found.found.hull.items
    c.in_ok-parts.ensures.read g c.in_ok-found.ensures.few (lines_few v view _ c.in_ok-found.found.facets.items c.in_ok-found.found.hull.items g).few
    c.args.draft.now c.put_hull.new.draft c.requires.empty (rw (c.cols-2.ensures.value, c.deref-3.ensures.value, c.deref-4.ensures.value) at c.in-Ok.ensures.put)

pub read_parts-requires-clause-first : goal.read_parts-requires-clause-first
read_parts-requires-clause-first c = first_source _ c.args.first c.args.second c.requires.kind.sources

pub read_parts-requires-clause-second : goal.read_parts-requires-clause-second
read_parts-requires-clause-second c = second_source _ c.args.first c.args.second c.requires.kind.sources
