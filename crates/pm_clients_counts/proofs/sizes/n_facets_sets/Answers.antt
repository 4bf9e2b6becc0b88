use Rattle.pm_client.proofs.ViewLaws.{has_listed}
use Rattle.pm_clients_counts.proofs.SetCounts.{sets_follow}
use Rattle.pm_clients_counts.proofs.sizes.n_facets_sets.Goals as goal
use Rattle.pm_props.specs.declared.property.PropId.TheVariants.{NFacets, VerticesInFacets}
use Rattle.std.proofs.Common.{[], ap, length, sym, ◌∙◌, ◌∷◌}
use Rattle.std.proofs.lemmas.List.{length-map}

pub sets_of-requires-clause-source : goal.sets_of-requires-clause-source
sets_of-requires-clause-source c = has_listed _ (VerticesInFacets ∷ []) VerticesInFacets (ap (λ k. k.sources) c.requires.kind)

pub put_value-requires-clause-target : goal.put_value-requires-clause-target
put_value-requires-clause-target c = has_listed _ (NFacets ∷ []) NFacets (ap (λ d. d.kind.targets) c.requires.empty ∙ ap (λ k. k.targets) c.requires.kind)

pub returns-clause-sound : goal.returns-clause-sound
returns-clause-sound c =
    sets_follow c.args.view.now c.sets_of.result.now.rows c.sets_of.result.now.cols c.sets_of.ensures.value c.sets_of.ensures.forms c.args.draft.now c.put_value.new.draft (length c.rows.result.now) (sym (length-map c.rows.result.now (λ r. r.items)) ∙ ap length c.rows.ensures)
    (record { targets = ap (λ k. k.targets) c.requires.kind; empty = c.requires.empty; put = c.in_ok-put_value.ensures.ok })
