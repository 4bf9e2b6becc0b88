use Rattle.pm_client.proofs.ViewLaws.{has_listed, target_named}
use Rattle.pm_clients_counts.proofs.FoundFirsts.{far_face_follows}
use Rattle.pm_client.proofs.Polytopes.{polytope_view}
use Rattle.pm_clients_counts.proofs.sizes.far_face.Goals as goal
use Rattle.pm_object.specs.Reading.{IsView, ViewSeen}
use Rattle.pm_standard.specs.Table.{standard_kind}
use Rattle.pm_props.specs.Properties.{is_of_matrices, value_kind}
use Rattle.pm_object_type.specs.declared.object_type.ObjectType.TheVariants.{Polytope}
use Rattle.pm_props.specs.declared.property.PropId.TheVariants.{FarFace, Vertices}
use Rattle.pm_standard.specs.declared.standard.StandardClient.TheVariants as client
use Rattle.pm_types.proofs.PrimitiveRows.{few_rows}
use Rattle.pm_types.specs.Forms.{is_matrix_form}
use Rattle.std.proofs.Common.{[], ap, refl, rules, ◌∙◌, ◌∷◌, ◌≡◌}
use Rattle.std.proofs.lemmas.Bool.{and_parts}

of_polytope : (v : ViewSeen) → IsView v → v.kind ≡ standard_kind client.FarFace → v.of ≡ Polytope
of_polytope v view kind = polytope_view v FarFace view (target_named v.kind FarFace (has_listed _ (FarFace ∷ []) FarFace (ap (λ k. k.targets) kind))) refl refl refl

pub prove-unreachable-requires : goal.prove-unreachable-requires
prove-unreachable-requires c =
    let other : ¬ (c.of.result ≡ Polytope) = search rules in
    other (c.of.ensures.value ∙ of_polytope c.args.view.now c.of.ensures.view c.requires.kind)

pub matrix_of-requires-clause-source : goal.matrix_of-requires-clause-source
matrix_of-requires-clause-source c = has_listed _ (Vertices ∷ []) Vertices (ap (λ k. k.sources) c.requires.kind)

pub zero_places-requires : goal.zero_places-requires
zero_places-requires c =
    let m = c.matrix_of.result.now in
    record { few = few_rows m.cols m.rows (and_parts (is_of_matrices (value_kind Vertices)) (is_matrix_form m.cols m.rows) c.matrix_of.ensures.forms.formed).1 }

pub put_value-requires-clause-target : goal.put_value-requires-clause-target
put_value-requires-clause-target c = has_listed _ (FarFace ∷ []) FarFace (ap (λ d. d.kind.targets) c.requires.empty ∙ ap (λ k. k.targets) c.requires.kind)

pub returns-clause-sound : goal.returns-clause-sound
returns-clause-sound c =
    let m = c.matrix_of.result.now in
    far_face_follows c.args.view.now (of_polytope c.args.view.now c.of.ensures.view c.requires.kind) m.cols m.rows c.matrix_of.ensures.value c.args.draft.now c.put_value.new.draft c.in_ok-places.places.items c.in_ok-places.ensures.places c.in_ok-places.ensures.form
    (record { targets = ap (λ k. k.targets) c.requires.kind; empty = c.requires.empty; put = rw c.from_vec.ensures at c.in_ok-put_value.ensures.ok })
