use Rattle.pm_client.proofs.ViewLaws.{has_listed, no_fan_of}
use Rattle.pm_clients_comb.proofs.Sized.{vertex_sizes_sound}
use Rattle.pm_clients_comb.proofs.client.vertex_sizes.Goals as goal
use Rattle.pm_object_type.specs.declared.object_type.ObjectType.TheVariants.{Fan}
use Rattle.pm_props.specs.declared.property.PropId.TheVariants.{VertexSizes, VerticesInFacets}
use Rattle.std.proofs.Common.{[], ap, refl, rules, sym, ◌∙◌, ◌∷◌, ◌≡◌}

pub prove-unreachable-requires : goal.prove-unreachable-requires
prove-unreachable-requires c = let fan : c.of.result ≡ Fan = search rules in no_fan_of c.args.view.now (VerticesInFacets ∷ []) VerticesInFacets c.of.ensures.view (ap (λ k. k.sources) c.requires.kind) refl refl refl (sym c.of.ensures.value ∙ fan)

pub sets_of-requires-clause-source : goal.sets_of-requires-clause-source
sets_of-requires-clause-source c = has_listed _ (VerticesInFacets ∷ []) VerticesInFacets (ap (λ k. k.sources) c.requires.kind)

pub put_value-requires-clause-target : goal.put_value-requires-clause-target
put_value-requires-clause-target c = has_listed _ (VertexSizes ∷ []) VertexSizes (ap (λ d. d.kind.targets) c.requires.empty ∙ ap (λ k. k.targets) c.requires.kind)

pub returns-clause-sound : goal.returns-clause-sound
returns-clause-sound c =
    let v = c.args.view.now in
    let no_fan = no_fan_of c.args.view.now (VerticesInFacets ∷ []) VerticesInFacets c.of.ensures.view (ap (λ k. k.sources) c.requires.kind) refl refl refl in
    vertex_sizes_sound v no_fan c.args.draft.now c.put_value.new.draft c.sets_of.result.now.rows c.sets_of.result.now.cols c.sets_of.ensures.value c.sets_of.ensures.forms
    (record { targets = ap (λ k. k.targets) c.requires.kind; empty = c.requires.empty; put = rw (c.from_vec.ensures, c.in_ok-sizes.ensures) at c.in_ok-put_value.ensures.ok })
