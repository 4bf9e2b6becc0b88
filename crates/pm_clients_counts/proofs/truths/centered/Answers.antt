use Rattle.pm_client.proofs.ViewLaws.{has_listed, target_named}
use Rattle.pm_clients_counts.proofs.FoundFirsts.{centered_follows}
use Rattle.pm_client.proofs.Polytopes.{polytope_view}
use Rattle.pm_clients_counts.proofs.truths.centered.Goals as goal
use Rattle.pm_object.specs.Reading.{IsView, ViewSeen}
use Rattle.pm_standard.specs.Table.{standard_kind}
use Rattle.pm_object_type.specs.declared.object_type.ObjectType.TheVariants.{Polytope}
use Rattle.pm_props.specs.declared.property.PropId.TheVariants.{AffineHull, Centered, Facets}
use Rattle.pm_props.specs.declared.property.PropId.{PropId}
use Rattle.pm_standard.specs.declared.standard.StandardClient.TheVariants as client
use Rattle.std.proofs.Common.{[], ap, refl, rules, ◌∙◌, ◌∷◌, ◌≡◌}
use Rattle.std.specs.Prelude.{List}

abbrev sources : List PropId
sources = Facets ∷ AffineHull ∷ []

of_polytope : (v : ViewSeen) → IsView v → v.kind ≡ standard_kind client.Centered → v.of ≡ Polytope
of_polytope v view kind = polytope_view v Centered view (target_named v.kind Centered (has_listed _ (Centered ∷ []) Centered (ap (λ k. k.targets) kind))) refl refl refl

pub prove-unreachable-requires : goal.prove-unreachable-requires
prove-unreachable-requires c =
    let other : ¬ (c.of.result ≡ Polytope) = search rules in
    other (c.of.ensures.value ∙ of_polytope c.args.view.now c.of.ensures.view c.requires.kind)

pub matrix_of-facets-requires-clause-source : goal.matrix_of-facets-requires-clause-source
matrix_of-facets-requires-clause-source c = has_listed _ sources Facets (ap (λ k. k.sources) c.requires.kind)

pub matrix_of-hull-requires-clause-source : goal.matrix_of-hull-requires-clause-source
matrix_of-hull-requires-clause-source c = has_listed _ sources AffineHull (ap (λ k. k.sources) c.requires.kind)

pub put_value-requires-clause-target : goal.put_value-requires-clause-target
put_value-requires-clause-target c = has_listed _ (Centered ∷ []) Centered (ap (λ d. d.kind.targets) c.requires.empty ∙ ap (λ k. k.targets) c.requires.kind)

pub returns-clause-sound : goal.returns-clause-sound
returns-clause-sound c =
    let first = c.matrix_of-facets.result.now in
    let second = c.matrix_of-hull.result.now in
    centered_follows c.args.view.now (of_polytope c.args.view.now c.of.ensures.view c.requires.kind) first.cols second.cols first.rows second.rows c.is_centered-is_centered.result c.args.draft.now c.put_value.new.draft
    c.matrix_of-facets.ensures.value c.matrix_of-hull.ensures.value c.is_centered-is_centered.ensures
    (record { targets = ap (λ k. k.targets) c.requires.kind; empty = c.requires.empty; put = c.in_ok-put_value.ensures.ok })
