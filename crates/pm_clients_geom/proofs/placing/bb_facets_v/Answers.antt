use Rattle.pm_client.proofs.ViewLaws.{has_listed}
use Rattle.pm_clients_geom.proofs.FoundPlaced.{three_sound}
use Rattle.pm_clients_geom.proofs.placing.bb_facets_v.Goals as goal
use Rattle.pm_props.specs.declared.property.PropId.TheVariants.{AffineHull, Facets, PlacingTriangulation}
use Rattle.pm_props.specs.declared.property.PropId.{PropId}
use Rattle.std.proofs.Common.{ap, ◌∙◌}
use Rattle.std.specs.Prelude.{List, [], ◌∷◌}

abbrev targets : List PropId
targets = Facets ∷ AffineHull ∷ PlacingTriangulation ∷ []

pub put_hull-requires-clause-target : goal.put_hull-requires-clause-target
put_hull-requires-clause-target c = has_listed _ targets Facets (ap (λ d. d.kind.targets) c.requires.empty ∙ c.requires.targets)

pub put_hull-requires-clause-hull_target : goal.put_hull-requires-clause-hull_target
put_hull-requires-clause-hull_target c = has_listed _ targets AffineHull (ap (λ d. d.kind.targets) c.requires.empty ∙ c.requires.targets)

pub put_value-requires-clause-target : goal.put_value-requires-clause-target
put_value-requires-clause-target c = has_listed _ targets PlacingTriangulation (ap (λ d. d.kind.targets) c.in-Ok.ensures.put.draft ∙ ap (λ d. d.kind.targets) c.requires.empty ∙ c.requires.targets)

pub returns-clause-sound : goal.returns-clause-sound
returns-clause-sound c =
    let v = c.args.view.now in
    let view = c.cols.ensures.view in
    let p = c.in_ok-placed.placed in
    let put = rw (c.cols.ensures.value, c.deref.ensures.value, c.deref-2.ensures.value) at c.in-Ok.ensures.put in
    three_sound v view c.requires.kind c.requires.targets p.parts.first.items p.parts.second.items p.facets.facets.items p.facets.hull.items p.cells c.in_ok-placed.ensures.placed
    put.in_range put.hull_in_range c.args.draft.now c.put_hull.new.draft c.put_value.new.draft c.requires.empty put.draft c.in_ok-put_value.ensures.ok
