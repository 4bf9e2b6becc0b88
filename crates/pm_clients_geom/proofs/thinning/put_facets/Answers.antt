use Rattle.pm_client.proofs.ViewLaws.{has_listed}
use Rattle.pm_clients_geom.proofs.FoundHulls.{hull_puts}
use Rattle.pm_clients_geom.proofs.FoundThinned.{possible_few}
use Rattle.pm_clients_geom.proofs.thinning.put_facets.Goals as goal
use Rattle.pm_object.specs.Reading.{DraftSeen}
use Rattle.pm_props.specs.declared.property.PropId.TheVariants.{AffineHull, Facets}
use Rattle.pm_props.specs.declared.property.PropId.{PropId}
use Rattle.std.proofs.Common.{ap, ◌∙◌}
use Rattle.std.specs.Prelude.{List, [], ◌∷◌}

abbrev targets : List PropId
targets = Facets ∷ AffineHull ∷ []

pub put_hull-requires-clause-facet_cols : goal.put_hull-requires-clause-facet_cols
put_hull-requires-clause-facet_cols c = rw (c.deref.ensures.value, c.cols.ensures.value) (possible_few c.args.view.now c.args.found.facets.items c.possible_facets-rows.result.items c.requires.facets c.possible_facets-rows.ensures).cols

pub put_hull-requires-clause-target : goal.put_hull-requires-clause-target
put_hull-requires-clause-target c = has_listed _ targets Facets (ap (λ d. d.kind.targets) c.requires.empty ∙ c.requires.targets)

pub put_hull-requires-clause-hull_target : goal.put_hull-requires-clause-hull_target
put_hull-requires-clause-hull_target c = has_listed _ targets AffineHull (ap (λ d. d.kind.targets) c.requires.empty ∙ c.requires.targets)

pub returns-clause-put : goal.returns-clause-put
returns-clause-put c =
    let v = c.args.view.now in
    let put = rw (c.cols.ensures.value, c.deref.ensures.value, c.deref-2.ensures.value) at c.in_ok-put_hull.ensures.put in
    record {
      facets = c.possible_facets-rows.result.items;
      possible = c.possible_facets-rows.ensures;
      few = possible_few v c.args.found.facets.items c.possible_facets-rows.result.items c.requires.facets c.possible_facets-rows.ensures;
      few_hull = c.requires.hull;
      in_range = put.in_range;
      hull_in_range = put.hull_in_range;
      draft = put.draft ∙ ap (λ (d : DraftSeen). record { kind = d.kind; values = hull_puts v c.possible_facets-rows.result.items c.args.found.hull.items }) c.requires.empty;
    }
