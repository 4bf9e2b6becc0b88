use Rattle.pm_client.proofs.ViewLaws.{has_listed}
use Rattle.pm_clients_counts.proofs.RowCounts.{count_follows}
use Rattle.pm_clients_counts.proofs.sizes.n_facets.Goals as goal
use Rattle.pm_props.specs.declared.property.PropId.TheVariants.{NFacets, Facets}
use Rattle.pm_relations.proofs.Orders.{rows_of_facets}
use Rattle.std.proofs.Common.{[], ap, refl, ◌∙◌, ◌∷◌}

pub matrix_of-requires-clause-source : goal.matrix_of-requires-clause-source
matrix_of-requires-clause-source c = has_listed _ (Facets ∷ []) Facets (ap (λ k. k.sources) c.requires.kind)

pub put_value-requires-clause-target : goal.put_value-requires-clause-target
put_value-requires-clause-target c = has_listed _ (NFacets ∷ []) NFacets (ap (λ d. d.kind.targets) c.requires.empty ∙ ap (λ k. k.targets) c.requires.kind)

pub returns-clause-sound : goal.returns-clause-sound
returns-clause-sound c =
    count_follows c.args.view.now Facets NFacets c.matrix_of.result.now.cols c.rows-count.result c.matrix_of.result.now.rows c.args.draft.now c.put_value.new.draft refl c.rows-count.ensures.value c.matrix_of.ensures.value c.matrix_of.ensures.forms
    (record { targets = ap (λ k. k.targets) c.requires.kind; empty = c.requires.empty; put = c.in_ok-put_value.ensures.ok })
    (λ t o orders r d h. rows_of_facets t o orders c.matrix_of.result.now.cols c.matrix_of.result.now.rows r h d)
