use Rattle.pm_client.specs.Fails.{IfFailed}
use Rattle.pm_client.proofs.Failing.{fails_by_facet_sets}
use Rattle.pm_client.proofs.ViewLaws.{has_listed, not_fan, source_named}
use Rattle.pm_client.specs.Sound.{FailsRightly}
use Rattle.pm_clients_geom.proofs.FoundHulls.{no_facet_added}
use Rattle.pm_clients_geom.proofs.FoundThinned.{columns_few, ray_sets, vertices_sound}
use Rattle.pm_clients_geom.proofs.thinning.rays_of_sets.Goals as goal
use Rattle.pm_clients_geom.specs.Hulls.{AreFewRows}
use Rattle.pm_incidence.specs.FromSets.{turned}
use Rattle.pm_props.specs.declared.property.PropId.TheVariants.{AffineHull, Facets, Vertices, VerticesInFacets}
use Rattle.pm_props.specs.declared.property.PropId.{PropId}
use Rattle.std.proofs.Common.{ap, arith, refl, subst, sym, ◌∙◌}
use Rattle.std.proofs.lemmas.Result.{err_from_is_err_and}
use Rattle.std.specs.Prelude.{List, [], ◌∷◌}
use Rattle.pm_client.specs.declared.ClientFail.{ClientFail}
use Rattle.pm_clients_geom.proofs.LostThinning.{sets_lost}
use Rattle.pm_clients_geom.specs.Thinned.{ReadsLostSets}

abbrev sources : List PropId
sources = Facets ∷ AffineHull ∷ VerticesInFacets ∷ []

pub read_parts-requires-clause-first : goal.read_parts-requires-clause-first
read_parts-requires-clause-first c = has_listed _ sources AffineHull c.requires.kind.sources

pub read_parts-requires-clause-second : goal.read_parts-requires-clause-second
read_parts-requires-clause-second c = has_listed _ sources Facets c.requires.kind.sources

pub sets_of-sets-requires-clause-source : goal.sets_of-sets-requires-clause-source
sets_of-sets-requires-clause-source c = has_listed _ sources VerticesInFacets c.requires.kind.sources

pub matrix_of_rays-requires-clause-rays : goal.matrix_of_rays-requires-clause-rays
matrix_of_rays-requires-clause-rays c = rw (c.of-2.ensures.value, c.deref.ensures.value) (rw c.of.ensures.value at c.possible_rays-rays.ensures).may.before

pub put_value-requires-clause-target : goal.put_value-requires-clause-target
put_value-requires-clause-target c = has_listed _ (Vertices ∷ []) Vertices (ap (λ d. d.kind.targets) c.requires.empty ∙ c.requires.kind.targets)

pub returns-in_err-found-clause-failed : goal.returns-in_err-found-clause-failed
returns-in_err-found-clause-failed c =
    let v = c.args.view.now in
    let w = err_from_is_err_and c.from_residual-in_err-found.result c.from_residual-in_err-found.ensures.1 in
    rw w.1 (subst (FailsRightly v) (sym w.2)
    (fails_by_facet_sets v c.requires.kind.lists c.requires.kind.determines c.in_ok-halves.halves.first.items c.in_ok-halves.halves.second.items (turned c.sets_of-sets.result.now) c.in_err-found.field-0.0
    (ray_sets c.sets_of-sets.result.now c.in_ok-halves.ensures.read c.sets_of-sets.ensures.value) (no_facet_added v.of v.cols) (rw c.cols.ensures.value at c.in_err-found.ensures.failed)))

pub returns-in_err-found-clause-lost : goal.returns-in_err-found-clause-lost
returns-in_err-found-clause-lost c = λ wide.
    let v = c.args.view.now in
    let w = err_from_is_err_and c.from_residual-in_err-found.result c.from_residual-in_err-found.ensures.1 in
    rw w.1 (subst (λ (f : ClientFail). IfFailed f (ReadsLostSets v AffineHull Facets)) (sym w.2)
    (sets_lost v AffineHull Facets c.in_ok-halves.halves.first.items c.in_ok-halves.halves.second.items (turned c.sets_of-sets.result.now)
    (ray_sets c.sets_of-sets.result.now c.in_ok-halves.ensures.read c.sets_of-sets.ensures.value) c.in_err-found.field-0.0
    (rw c.cols.ensures.value at c.in_err-found.ensures.failed) (rw c.cols.ensures.value at (c.in_err-found.ensures.lost wide))))

pub returns-clause-sound : goal.returns-clause-sound
returns-clause-sound c =
    let v = c.args.view.now in
    let view = c.cols.ensures.view in
    let s = c.sets_of-sets.result.now in
    let sources_are = c.requires.kind.sources in
    let no_fan = not_fan v Facets view (source_named v.kind Facets (has_listed _ sources Facets sources_are)) refl refl in
    let null = rw c.cols.ensures.value at c.in_ok-found.ensures.null in
    let few : AreFewRows v.cols c.in_ok-found.found.items = record {
      cols = rw c.cols.ensures.value at c.in_ok-found.ensures.cols;
      few = let m = columns_few v.of v.cols s c.sets_of-sets.ensures.forms in let l = c.in_ok-found.ensures.as_many in omega arith;
    } in
    vertices_sound v view no_fan c.requires.kind.targets (has_listed _ sources VerticesInFacets sources_are) c.in_ok-halves.halves.first.items c.in_ok-halves.halves.second.items c.in_ok-halves.ensures.read
    s c.sets_of-sets.ensures.value c.in_ok-found.found.items null.0 null.1 null.2 few (rw c.cols.ensures.value at c.in_ok-found.ensures.rays) c.possible_rays-rays.result.items (rw c.of.ensures.value at c.possible_rays-rays.ensures)
    c.in_ok-vertices.vertices.rows (rw (c.of-2.ensures.value, c.deref.ensures.value) at c.in_ok-vertices.ensures.rows) c.in_ok-vertices.vertices c.args.draft.now c.put_value.new.draft
    (rw c.cols-2.ensures.value at c.in_ok-vertices.ensures.stated) c.requires.empty c.in_ok-put_value.ensures.ok
