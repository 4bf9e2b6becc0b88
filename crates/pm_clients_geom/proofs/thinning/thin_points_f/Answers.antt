use Rattle.pm_client.specs.Fails.{IfFailed}
use Rattle.pm_client.proofs.Failing.{fails_by_points}
use Rattle.pm_client.proofs.FreshOrders.{fresh_kind}
use Rattle.pm_client.proofs.ViewLaws.{has_listed, not_fan, source_named}
use Rattle.pm_client.specs.Sound.{FailsRightly}
use Rattle.pm_clients_geom.proofs.FoundHulls.{echelon_few, rays_sound}
use Rattle.pm_clients_geom.proofs.FoundThinned.{first_rows_of, no_point_added, points_found, second_rows_of}
use Rattle.pm_clients_geom.proofs.thinning.thin_points_f.Goals as goal
use Rattle.pm_props.specs.Properties.{rays_tag}
use Rattle.pm_props.specs.declared.property.PropId.TheVariants.{AffineHull, Facets, InputLineality, LinealitySpace, Points, Vertices}
use Rattle.pm_props.specs.declared.property.PropId.{PropId}
use Rattle.std.proofs.Common.{refl, subst, sym}
use Rattle.std.proofs.lemmas.Result.{err_from_is_err_and}
use Rattle.std.specs.Prelude.{List, [], ◌∷◌}
use Rattle.pm_client.specs.declared.ClientFail.{ClientFail}
use Rattle.pm_clients_geom.proofs.LostThinning.{points_lost}
use Rattle.pm_clients_geom.specs.Thinned.{ReadsLostRows}

abbrev sources : List PropId
sources = Points ∷ InputLineality ∷ Facets ∷ AffineHull ∷ []

abbrev targets : List PropId
targets = Vertices ∷ LinealitySpace ∷ []

pub read_parts-requires-clause-first : goal.read_parts-requires-clause-first
read_parts-requires-clause-first c = has_listed _ sources InputLineality c.requires.kind.sources

pub read_parts-requires-clause-second : goal.read_parts-requires-clause-second
read_parts-requires-clause-second c = has_listed _ sources Points c.requires.kind.sources

pub read_parts-requires-2-clause-first : goal.read_parts-requires-2-clause-first
read_parts-requires-2-clause-first c = has_listed _ sources AffineHull c.requires.kind.sources

pub read_parts-requires-2-clause-second : goal.read_parts-requires-2-clause-second
read_parts-requires-2-clause-second c = has_listed _ sources Facets c.requires.kind.sources

pub returns-in_err-found-clause-failed : goal.returns-in_err-found-clause-failed
returns-in_err-found-clause-failed c =
    let v = c.args.view.now in
    let w = err_from_is_err_and c.from_residual-in_err-found.result c.from_residual-in_err-found.ensures.1 in
    rw w.1 (subst (FailsRightly v) (sym w.2)
    (fails_by_points v c.requires.kind.lists c.requires.kind.multiplies c.in_ok-points.points.first.items c.in_ok-points.points.second.items c.in_ok-halves.halves.second.items c.in_err-found.field-0.0
    (first_rows_of c.in_ok-points.ensures.read) (second_rows_of c.in_ok-points.ensures.read) (second_rows_of c.in_ok-halves.ensures.read) (no_point_added v.of v.cols)
    (rw c.cols.ensures.value at c.in_err-found.ensures.failed)))

pub put_generators-requires-clause-lines : goal.put_generators-requires-clause-lines
put_generators-requires-clause-lines c =
    let b = rw c.cols.ensures.value at c.in_ok-found.ensures.echelon in
    echelon_few c.args.view.now c.cols.ensures.view c.in_ok-found.found.lineality.items b.0 b.1

pub returns-in_err-found-clause-lost : goal.returns-in_err-found-clause-lost
returns-in_err-found-clause-lost c = λ wide.
    let v = c.args.view.now in
    let w = err_from_is_err_and c.from_residual-in_err-found.result c.from_residual-in_err-found.ensures.1 in
    rw w.1 (subst (λ (f : ClientFail). IfFailed f (ReadsLostRows v InputLineality Points Facets)) (sym w.2)
    (points_lost v c.in_ok-points.points.first.items c.in_ok-points.points.second.items c.in_ok-halves.halves.second.items c.in_err-found.field-0.0
    (first_rows_of c.in_ok-points.ensures.read) (second_rows_of c.in_ok-points.ensures.read) (second_rows_of c.in_ok-halves.ensures.read) (no_point_added v.of v.cols)
    (rw c.cols.ensures.value at c.in_err-found.ensures.failed) (rw c.cols.ensures.value at (c.in_err-found.ensures.lost wide))))

pub returns-clause-sound : goal.returns-clause-sound
returns-clause-sound c =
    let v = c.args.view.now in
    let view = c.cols.ensures.view in
    let targets_are = c.requires.kind.targets in
    let sources_are = c.requires.kind.sources in
    let no_fan = not_fan v Facets view (source_named v.kind Facets (has_listed _ sources Facets sources_are)) refl refl in
    let fresh = fresh_kind rays_tag v.kind targets sources Vertices targets_are sources_are refl refl refl in
    let g = rw c.cols.ensures.value at c.in_ok-found.ensures.generators in
    rays_sound v view targets_are no_fan fresh _ c.in_ok-found.found.rays.items c.in_ok-found.found.lineality.items
    (points_found v no_fan c.in_ok-points.points.first.items c.in_ok-points.points.second.items c.in_ok-halves.halves.first.items c.in_ok-halves.halves.second.items c.in_ok-found.found.rays.items c.in_ok-found.found.lineality.items
    c.in_ok-points.ensures.read c.in_ok-halves.ensures.read (g c.in_ok-halves.ensures.first_few.cols))
    c.put_generators.new.draft c.in_ok-put_generators.ensures.put
