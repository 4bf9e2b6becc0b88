use Rattle.pm_client.proofs.ViewLaws.{has_listed}
use Rattle.pm_clients_comb.proofs.Answered.{fails_either, sets_sound, vertex_lengths}
use Rattle.pm_clients_comb.proofs.client.vertices_in_facets.Goals as goal
use Rattle.pm_props.specs.declared.property.PropId.TheVariants.{Facets, Vertices, VerticesInFacets}
use Rattle.std.proofs.Common.{[], ap, refl, ◌∙◌, ◌∷◌}
use Rattle.std.proofs.lemmas.Result.{err_from_is_err_and}

pub matrix_of-requires-clause-source : goal.matrix_of-requires-clause-source
matrix_of-requires-clause-source c = has_listed _ (Vertices ∷ Facets ∷ []) Facets c.requires.kind.sources

pub matrix_of-requires-2-clause-source : goal.matrix_of-requires-2-clause-source
matrix_of-requires-2-clause-source c = has_listed _ (Vertices ∷ Facets ∷ []) Vertices c.requires.kind.sources

pub incidence-requires-clause-cols : goal.incidence-requires-clause-cols
incidence-requires-clause-cols c =
    rw (c.deref.ensures.value, c.deref-2.ensures.value)
    (vertex_lengths c.args.view.now c.matrix_of.result.now.cols c.matrix_of-2.result.now.cols c.matrix_of.result.now.rows c.matrix_of-2.result.now.rows c.in_ok-facets.facets.items c.in_ok-vertices.vertices.items
    c.matrix_of.ensures.forms c.matrix_of-2.ensures.forms c.in_ok-facets.ensures.rows c.in_ok-vertices.ensures.rows)

pub put_value-requires-clause-target : goal.put_value-requires-clause-target
put_value-requires-clause-target c = has_listed _ (VerticesInFacets ∷ []) VerticesInFacets (ap (λ d. d.kind.targets) c.requires.empty ∙ c.requires.kind.targets)

pub returns-in_err-sets-clause-failed : goal.returns-in_err-sets-clause-failed
returns-in_err-sets-clause-failed c =
    let w = fails_either c.args.view.now c.matrix_of.result.now.cols c.matrix_of-2.result.now.cols c.matrix_of.result.now.rows c.matrix_of-2.result.now.rows c.in_ok-facets.facets.items c.in_ok-vertices.vertices.items
    c.in_err-sets.field-0.0 c.args.wide c.in_err-sets.ensures.total c.requires.multiplies c.matrix_of.ensures.value c.matrix_of-2.ensures.value c.in_ok-facets.ensures.rows c.in_ok-vertices.ensures.rows (rw (c.deref.ensures.value, c.deref-2.ensures.value) at c.in_err-sets.ensures.failed) in
    let p = err_from_is_err_and c.from_residual-in_err-sets.result c.from_residual-in_err-sets.ensures.1 in
    rw (p.1, p.2) w

pub returns-clause-sound : goal.returns-clause-sound
returns-clause-sound c =
    sets_sound c.args.view.now c.matrix_of.result.now.cols c.matrix_of-2.result.now.cols c.matrix_of.result.now.rows c.matrix_of-2.result.now.rows c.in_ok-facets.facets.items c.in_ok-vertices.vertices.items
    c.in_ok-sets.sets c.args.draft.now c.put_value.new.draft
    (record {
      kind = c.requires.kind;
      facets_read = c.matrix_of.ensures.value;
      vertices_read = c.matrix_of-2.ensures.value;
      facets_form = c.matrix_of.ensures.forms;
      vertices_form = c.matrix_of-2.ensures.forms;
      facet_rows = c.in_ok-facets.ensures.rows;
      vertex_rows = c.in_ok-vertices.ensures.rows;
    })
    (rw (c.deref.ensures.value, c.deref-2.ensures.value) at c.in_ok-sets.ensures.ok) c.requires.empty c.in_ok-put_value.ensures.ok

pub returns-clause-stays : goal.returns-clause-stays
returns-clause-stays c = λ narrow. record {
  facet_cols = c.matrix_of.result.now.cols;
  vertex_cols = c.matrix_of-2.result.now.cols;
  facets = c.matrix_of.result.now.rows;
  vertices = c.matrix_of-2.result.now.rows;
  reads_facets = c.matrix_of.ensures.value;
  reads_vertices = c.matrix_of-2.ensures.value;
  F = c.in_ok-facets.facets.items;
  V = c.in_ok-vertices.vertices.items;
  facet_rows = c.in_ok-facets.ensures.rows;
  vertex_rows = c.in_ok-vertices.ensures.rows;
  stay = rw (c.deref.ensures.value, c.deref-2.ensures.value) at (c.in_ok-sets.ensures.stays narrow);
}

pub returns-in_err-sets-clause-total : goal.returns-in_err-sets-clause-total
returns-in_err-sets-clause-total c = λ exact.
    let p = err_from_is_err_and c.from_residual-in_err-sets.result c.from_residual-in_err-sets.ensures.1 in
    rw (p.1, p.2, c.in_err-sets.ensures.total exact) refl
