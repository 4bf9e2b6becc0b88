use Rattle.pm_client.proofs.ViewLaws.{has_listed, source_named}
use Rattle.pm_client.proofs.Machine.{cast_back}
use Rattle.pm_clients_fans.proofs.Fans.{fan_view}
use Rattle.pm_clients_fans.proofs.FoundFans.{simplicial_sound}
use Rattle.pm_clients_fans.proofs.client.fan_simplicial.Goals as goal
use Rattle.pm_object.specs.Reading.{IsView, ViewSeen}
use Rattle.pm_standard.specs.Table.{standard_kind}
use Rattle.pm_object_type.specs.declared.object_type.ObjectType.TheVariants.{Fan}
use Rattle.pm_props.specs.declared.property.PropId.TheVariants.{LinealityDim, MaximalCones, MaximalConesDims, Simplicial}
use Rattle.pm_props.specs.declared.property.PropId.{PropId}
use Rattle.pm_standard.specs.declared.standard.StandardClient.TheVariants as client
use Rattle.std.proofs.Common.{[], ap, refl, rules, subst, ◌∙◌, ◌∷◌, ◌≡◌}
use Rattle.pm_relations.specs.Fans.{AreSimplices}
use Rattle.std.specs.Prelude.{IsTrue, List, ◌↔◌}

abbrev sources : List PropId
sources = MaximalConesDims ∷ MaximalCones ∷ LinealityDim ∷ []

of_fan : (v : ViewSeen) → IsView v → v.kind ≡ standard_kind client.FanSimplicial → v.of ≡ Fan
of_fan v view kind = fan_view v MaximalCones view (source_named v.kind MaximalCones (has_listed _ sources MaximalCones (ap (λ k. k.sources) kind))) refl refl refl

pub prove-unreachable-requires : goal.prove-unreachable-requires
prove-unreachable-requires c =
    let other : ¬ (c.of.result ≡ Fan) = search rules in
    other (c.of.ensures.value ∙ of_fan c.args.view.now c.of.ensures.view c.requires.kind)

pub put_value-requires-clause-target : goal.put_value-requires-clause-target
put_value-requires-clause-target c = has_listed _ (Simplicial ∷ []) Simplicial (ap (λ d. d.kind.targets) c.requires.empty ∙ ap (λ k. k.targets) c.requires.kind)

pub sets_of-cones-requires-clause-source : goal.sets_of-cones-requires-clause-source
sets_of-cones-requires-clause-source c = has_listed _ sources MaximalCones (ap (λ k. k.sources) c.requires.kind)

pub counts_of-dims-requires-clause-source : goal.counts_of-dims-requires-clause-source
counts_of-dims-requires-clause-source c = has_listed _ sources MaximalConesDims (ap (λ k. k.sources) c.requires.kind)

pub whole_of-lineality-requires-clause-source : goal.whole_of-lineality-requires-clause-source
whole_of-lineality-requires-clause-source c = has_listed _ sources LinealityDim (ap (λ k. k.sources) c.requires.kind)

pub returns-clause-sound : goal.returns-clause-sound
returns-clause-sound c =
    let cones = c.sets_of-cones.result.now in
    let dims = c.counts_of-dims.result.now in
    let same = cast_back c.whole_of-lineality.result c.whole_of-lineality.ensures.forms.formed in
    simplicial_sound c.args.view.now (of_fan c.args.view.now c.of.ensures.view c.requires.kind) c.args.draft.now c.put_value.new.draft dims c.counts_of-dims.ensures.value c.counts_of-dims.ensures.forms cones.rows cones.cols c.sets_of-cones.ensures.value c.sets_of-cones.ensures.forms.formed c.whole_of-lineality.result c.whole_of-lineality.ensures.value c.are_simplices-is_simplicial.result
    (subst (λ l. IsTrue c.are_simplices-is_simplicial.result ↔ AreSimplices l cones.rows dims) same (rw (c.rows.ensures, c.as_slice.ensures) at c.are_simplices-is_simplicial.ensures))
    (record { targets = ap (λ k. k.targets) c.requires.kind; empty = c.requires.empty; put = c.in_ok-put_value.ensures.ok })
