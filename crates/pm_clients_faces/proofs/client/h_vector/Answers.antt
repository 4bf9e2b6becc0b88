use Rattle.pm_client.proofs.Machine.{cast_back}
use Rattle.pm_client.proofs.ViewLaws.{has_listed, not_fan, source_named}
use Rattle.pm_clients_faces.proofs.Answered.{h_numbers_sound}
use Rattle.pm_clients_faces.proofs.client.h_vector.Goals as goal
use Rattle.pm_object_type.specs.declared.object_type.ObjectType.TheVariants.{Fan}
use Rattle.pm_props.specs.declared.property.PropId.TheVariants.{CombinatorialDim, FVector, HVector}
use Rattle.pm_props.specs.declared.property.PropId.{PropId}
use Rattle.std.proofs.Common.{[], ap, refl, rules, sym, ◌∙◌, ◌∷◌, ◌≡◌}
use Rattle.std.specs.Prelude.{List}

abbrev sources : List PropId
sources = FVector ∷ CombinatorialDim ∷ []

pub prove-unreachable-requires : goal.prove-unreachable-requires
prove-unreachable-requires c =
    let v = c.args.view.now in
    let fan : c.of.result ≡ Fan = search rules in
    not_fan v FVector c.of.ensures.view (source_named v.kind FVector (has_listed _ sources FVector (ap (λ k. k.sources) c.requires.kind))) refl refl (sym c.of.ensures.value ∙ fan)

pub counts_of-requires-clause-source : goal.counts_of-requires-clause-source
counts_of-requires-clause-source c = has_listed _ sources FVector (ap (λ k. k.sources) c.requires.kind)

pub whole_of-requires-clause-source : goal.whole_of-requires-clause-source
whole_of-requires-clause-source c = has_listed _ sources CombinatorialDim (ap (λ k. k.sources) c.requires.kind)

pub put_value-requires-clause-target : goal.put_value-requires-clause-target
put_value-requires-clause-target c = has_listed _ (HVector ∷ []) HVector (ap (λ d. d.kind.targets) c.requires.empty ∙ ap (λ k. k.targets) c.requires.kind)

pub returns-clause-sound : goal.returns-clause-sound
returns-clause-sound c =
    let v = c.args.view.now in
    let no_fan = not_fan v FVector c.of.ensures.view (source_named v.kind FVector (has_listed _ sources FVector (ap (λ k. k.sources) c.requires.kind))) refl refl in
    h_numbers_sound v no_fan c.args.draft.now c.put_value.new.draft c.counts_of.result.now c.in_ok-numbers.numbers c.whole_of.result c.counts_of.ensures.value c.whole_of.ensures.value
    (rw (cast_back c.whole_of.result c.whole_of.ensures.forms.formed) at c.in_ok-numbers.ensures.numbers) (rw (cast_back c.whole_of.result c.whole_of.ensures.forms.formed) at c.in_ok-numbers.ensures.none)
    (record { targets = ap (λ k. k.targets) c.requires.kind; empty = c.requires.empty; put = c.in_ok-put_value.ensures.ok })
