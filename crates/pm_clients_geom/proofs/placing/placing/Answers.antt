use Rattle.pm_client.proofs.ViewLaws.{has_listed}
use Rattle.pm_clients_geom.proofs.FoundPlaced.{placing_sound}
use Rattle.pm_clients_geom.proofs.placing.placing.Goals as goal
use Rattle.pm_props.specs.declared.property.PropId.TheVariants.{PlacingTriangulation}
use Rattle.std.proofs.Common.{[], ap, ◌∙◌, ◌∷◌}

pub put_value-requires-clause-target : goal.put_value-requires-clause-target
put_value-requires-clause-target c = has_listed _ (PlacingTriangulation ∷ []) PlacingTriangulation (ap (λ d. d.kind.targets) c.requires.empty ∙ c.requires.targets)

pub returns-clause-sound : goal.returns-clause-sound
returns-clause-sound c =
    let p = c.in_ok-placed.placed in
    placing_sound c.args.view.now c.in_ok-placed.ensures.view c.requires.targets p.parts.first.items p.parts.second.items p.facets.facets.items p.facets.hull.items p.cells c.in_ok-placed.ensures.placed c.args.draft.now c.put_value.new.draft
    (record { targets = c.requires.targets; empty = c.requires.empty; put = c.in_ok-put_value.ensures.ok })
