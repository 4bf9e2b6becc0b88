use Rattle.pm_client.proofs.ViewLaws.{has_listed, target_named}
use Rattle.pm_clients_counts.proofs.FoundFirsts.{bounded_follows}
use Rattle.pm_client.proofs.Polytopes.{polytope_view}
use Rattle.pm_clients_counts.proofs.truths.bounded.Goals as goal
use Rattle.pm_object.specs.Reading.{IsView, ViewSeen}
use Rattle.pm_standard.specs.Table.{standard_kind}
use Rattle.pm_object_type.specs.declared.object_type.ObjectType.TheVariants.{Polytope}
use Rattle.pm_props.specs.declared.property.PropId.TheVariants.{Bounded, LinealitySpace, Vertices}
use Rattle.pm_props.specs.declared.property.PropId.{PropId}
use Rattle.pm_standard.specs.declared.standard.StandardClient.TheVariants as client
use Rattle.std.proofs.Common.{[], ap, refl, rules, ◌∙◌, ◌∷◌, ◌≡◌}
use Rattle.std.specs.Prelude.{List}

abbrev sources : List PropId
sources = Vertices ∷ LinealitySpace ∷ []

of_polytope : (v : ViewSeen) → IsView v → v.kind ≡ standard_kind client.Bounded → v.of ≡ Polytope
of_polytope v view kind = polytope_view v Bounded view (target_named v.kind Bounded (has_listed _ (Bounded ∷ []) Bounded (ap (λ k. k.targets) kind))) refl refl refl

pub prove-unreachable-requires : goal.prove-unreachable-requires
prove-unreachable-requires c =
    let other : ¬ (c.of.result ≡ Polytope) = search rules in
    other (c.of.ensures.value ∙ of_polytope c.args.view.now c.of.ensures.view c.requires.kind)

pub matrix_of-vertices-requires-clause-source : goal.matrix_of-vertices-requires-clause-source
matrix_of-vertices-requires-clause-source c = has_listed _ sources Vertices (ap (λ k. k.sources) c.requires.kind)

pub matrix_of-lineality-requires-clause-source : goal.matrix_of-lineality-requires-clause-source
matrix_of-lineality-requires-clause-source c = has_listed _ sources LinealitySpace (ap (λ k. k.sources) c.requires.kind)

pub put_value-requires-clause-target : goal.put_value-requires-clause-target
put_value-requires-clause-target c = has_listed _ (Bounded ∷ []) Bounded (ap (λ d. d.kind.targets) c.requires.empty ∙ ap (λ k. k.targets) c.requires.kind)

pub returns-clause-sound : goal.returns-clause-sound
returns-clause-sound c =
    let first = c.matrix_of-vertices.result.now in
    let second = c.matrix_of-lineality.result.now in
    bounded_follows c.args.view.now (of_polytope c.args.view.now c.of.ensures.view c.requires.kind) first.cols second.cols first.rows second.rows c.is_bounded-is_bounded.result c.args.draft.now c.put_value.new.draft
    c.matrix_of-vertices.ensures.value c.matrix_of-lineality.ensures.value c.is_bounded-is_bounded.ensures
    (record { targets = ap (λ k. k.targets) c.requires.kind; empty = c.requires.empty; put = c.in_ok-put_value.ensures.ok })
