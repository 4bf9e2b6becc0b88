use Rattle.pm_client.proofs.Machine.{cast_back}
use Rattle.pm_client.proofs.ViewLaws.{has_listed, not_fan, source_named}
use Rattle.pm_clients_comb.proofs.Sized.{simple_sound}
use Rattle.pm_clients_comb.proofs.client.simple.Goals as goal
use Rattle.pm_object_type.specs.declared.object_type.ObjectType.TheVariants.{Fan}
use Rattle.pm_props.specs.declared.property.PropId.TheVariants.{CombinatorialDim, VertexSizes, Simple}
use Rattle.pm_props.specs.declared.property.PropId.{PropId}
use Rattle.std.proofs.Common.{[], ap, refl, rules, subst, sym, ◌∙◌, ◌∷◌, ◌≡◌}
use Rattle.std.specs.List.{All}
use Rattle.std.specs.Prelude.{IsTrue, List, ◌↔◌}

abbrev sources : List PropId
sources = VertexSizes ∷ CombinatorialDim ∷ []

pub prove-unreachable-requires : goal.prove-unreachable-requires
prove-unreachable-requires c =
    let v = c.args.view.now in
    let fan : c.of.result ≡ Fan = search rules in
    not_fan v VertexSizes c.of.ensures.view (source_named v.kind VertexSizes (has_listed _ sources VertexSizes (ap (λ k. k.sources) c.requires.kind))) refl refl (sym c.of.ensures.value ∙ fan)

pub counts_of-sizes-requires-clause-source : goal.counts_of-sizes-requires-clause-source
counts_of-sizes-requires-clause-source c = has_listed _ sources VertexSizes (ap (λ k. k.sources) c.requires.kind)

pub whole_of-requires-clause-source : goal.whole_of-requires-clause-source
whole_of-requires-clause-source c = has_listed _ sources CombinatorialDim (ap (λ k. k.sources) c.requires.kind)

pub put_value-requires-clause-target : goal.put_value-requires-clause-target
put_value-requires-clause-target c = has_listed _ (Simple ∷ []) Simple (ap (λ d. d.kind.targets) c.requires.empty ∙ ap (λ k. k.targets) c.requires.kind)

pub returns-clause-sound : goal.returns-clause-sound
returns-clause-sound c =
    let v = c.args.view.now in
    let no_fan = not_fan v VertexSizes c.of.ensures.view (source_named v.kind VertexSizes (has_listed _ sources VertexSizes (ap (λ k. k.sources) c.requires.kind))) refl refl in
    simple_sound v no_fan c.args.draft.now c.put_value.new.draft c.counts_of-sizes.result.now c.whole_of.result c.all_are-is_simple.result c.whole_of.ensures.value
    (subst (λ k. IsTrue c.all_are-is_simple.result ↔ All (λ z. z ≡ k) c.counts_of-sizes.result.now) (cast_back c.whole_of.result c.whole_of.ensures.forms.formed) (rw c.as_slice.ensures at c.all_are-is_simple.ensures)) c.counts_of-sizes.ensures.value
    (record { targets = ap (λ k. k.targets) c.requires.kind; empty = c.requires.empty; put = c.in_ok-put_value.ensures.ok })
