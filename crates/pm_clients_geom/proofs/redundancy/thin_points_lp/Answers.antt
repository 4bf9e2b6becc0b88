use Rattle.pm_clients_geom.proofs.FailingThinned.{fails_by_thin_rays}
use Rattle.pm_client.proofs.FreshOrders.{fresh_kind}
use Rattle.pm_client.proofs.ViewLaws.{has_listed, not_fan, source_named}
use Rattle.pm_client.specs.Sound.{FailsRightly}
use Rattle.pm_clients_geom.proofs.FoundHulls.{echelon_few, generated, parts_of_generators, rays_sound}
use Rattle.pm_clients_geom.proofs.redundancy.thin_points_lp.Goals as goal
use Rattle.pm_props.specs.Properties.{rays_tag}
use Rattle.pm_props.specs.declared.property.PropId.TheVariants.{InputLineality, LinealitySpace, Points, Vertices}
use Rattle.pm_props.specs.declared.property.PropId.{PropId}
use Rattle.std.proofs.Common.{arith, refl, subst, sym, ◌∙◌}
use Rattle.std.proofs.lemmas.Result.{err_from_is_err_and}
use Rattle.std.specs.Prelude.{List, [], ◌∷◌}

abbrev sources : List PropId
sources = Points ∷ InputLineality ∷ []

abbrev targets : List PropId
targets = Vertices ∷ LinealitySpace ∷ []

pub read_parts-requires-clause-first : goal.read_parts-requires-clause-first
read_parts-requires-clause-first c = has_listed _ sources InputLineality c.requires.kind.sources

pub read_parts-requires-clause-second : goal.read_parts-requires-clause-second
read_parts-requires-clause-second c = has_listed _ sources Points c.requires.kind.sources

pub returns-in_err-found-clause-failed : goal.returns-in_err-found-clause-failed
returns-in_err-found-clause-failed c =
    let v = c.args.view.now in
    let w = err_from_is_err_and c.from_residual-in_err-found.result c.from_residual-in_err-found.ensures.1 in
    rw w.1 (subst (FailsRightly v) (sym w.2)
    (fails_by_thin_rays v c.requires.kind.programs c.requires.kind.lists c.in_ok-points.points.first.items c.in_ok-points.points.second.items
    (parts_of_generators v InputLineality Points c.in_ok-points.points.first.items c.in_ok-points.points.second.items refl refl c.in_ok-points.ensures.read)
    c.in_err-found.field-0.0
    (rw (c.deref.ensures.value, c.deref-2.ensures.value, c.cols.ensures.value) at c.in_err-found.ensures.failed)))

pub put_generators-requires-clause-lines : goal.put_generators-requires-clause-lines
put_generators-requires-clause-lines c =
    let b = rw c.cols.ensures.value at c.in_ok-found.ensures.echelon in
    echelon_few c.args.view.now c.cols.ensures.view c.in_ok-found.found.lineality.items b.0 b.1

pub put_generators-requires-clause-rays : goal.put_generators-requires-clause-rays
put_generators-requires-clause-rays c = record {
  cols = rw c.cols.ensures.value at c.in_ok-found.ensures.cols;
  few = let l = rw c.deref.ensures.value at c.in_ok-found.ensures.few in let f = c.in_ok-points.ensures.second_few.few in omega arith;
}

pub returns-clause-sound : goal.returns-clause-sound
returns-clause-sound c =
    let v = c.args.view.now in
    let view = c.cols.ensures.view in
    let targets_are = c.requires.kind.targets in
    let sources_are = c.requires.kind.sources in
    let no_fan = not_fan v Points view (source_named v.kind Points (has_listed _ sources Points sources_are)) refl refl in
    let fresh = fresh_kind rays_tag v.kind targets sources Vertices targets_are sources_are refl refl refl in
    let g = rw (c.deref.ensures.value, c.deref-2.ensures.value, c.cols.ensures.value) at c.in_ok-found.ensures.generators in
    rays_sound v view targets_are no_fan fresh _ c.in_ok-found.found.rays.items c.in_ok-found.found.lineality.items
    (λ t o of cols right. (g, generated v InputLineality Points c.in_ok-points.points.first.items c.in_ok-points.points.second.items refl refl c.in_ok-points.ensures.read t o right (λ e. no_fan (sym of ∙ e))))
    c.put_generators.new.draft c.in_ok-put_generators.ensures.put
