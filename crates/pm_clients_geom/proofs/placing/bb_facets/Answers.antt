use Rattle.pm_client.proofs.ViewLaws.{has_listed}
use Rattle.pm_clients_geom.proofs.FoundHulls.{facets_sound, lines_few}
use Rattle.pm_clients_geom.proofs.placing.bb_facets.Goals as goal
use Rattle.pm_clients_geom.specs.Hulls.{FindsFacets}
use Rattle.pm_props.specs.declared.property.PropId.TheVariants.{AffineHull, Facets, InputLineality, Points}
use Rattle.pm_props.specs.declared.property.PropId.{PropId}
use Rattle.std.proofs.Common.{ap, ◌∙◌}
use Rattle.std.specs.Prelude.{List, [], ◌∷◌}

abbrev targets : List PropId
targets = Facets ∷ AffineHull ∷ []

pub put_hull-requires-clause-target : goal.put_hull-requires-clause-target
put_hull-requires-clause-target c = has_listed _ targets Facets (ap (λ d. d.kind.targets) c.requires.empty ∙ c.requires.targets)

pub put_hull-requires-clause-hull_target : goal.put_hull-requires-clause-hull_target
put_hull-requires-clause-hull_target c = has_listed _ targets AffineHull (ap (λ d. d.kind.targets) c.requires.empty ∙ c.requires.targets)

pub returns-clause-sound : goal.returns-clause-sound
returns-clause-sound c =
    let v = c.args.view.now in
    let view = c.cols.ensures.view in
    let p = c.in_ok-placed.placed in
    let w = c.in_ok-placed.ensures.placed in
    let finds : FindsFacets v.kind InputLineality Points = record {
      targets = c.requires.targets;
      sources = c.requires.kind.sources;
      parts = c.requires.kind.parts;
      generators = c.requires.kind.generators;
      doubles = c.requires.kind.doubles;
      lists = c.requires.kind.lists;
    } in
    facets_sound v view InputLineality Points finds p.parts.first.items p.parts.second.items p.facets.facets.items p.facets.hull.items
    w.read w.facets w.few_facets (lines_few v view _ p.facets.facets.items p.facets.hull.items w.facets).few
    c.args.draft.now c.put_hull.new.draft c.requires.empty (rw (c.cols.ensures.value, c.deref.ensures.value, c.deref-2.ensures.value) at c.in-Ok.ensures.put)
