use Rattle.pm_client.proofs.ViewLaws.{has_listed, no_fan_of}
use Rattle.pm_clients_faces.proofs.Answered.{counts_sound}
use Rattle.pm_clients_faces.proofs.client.f_vector.Goals as goal
use Rattle.pm_object_type.specs.declared.object_type.ObjectType.TheVariants.{Fan}
use Rattle.pm_props.specs.declared.property.PropId.TheVariants.{FVector, HasseDiagram}
use Rattle.std.proofs.Common.{[], ap, refl, rules, sym, ◌∙◌, ◌∷◌, ◌≡◌}

pub prove-unreachable-requires : goal.prove-unreachable-requires
prove-unreachable-requires c = let fan : c.of.result ≡ Fan = search rules in no_fan_of c.args.view.now (HasseDiagram ∷ []) HasseDiagram c.of.ensures.view (ap (λ k. k.sources) c.requires.kind) refl refl refl (sym c.of.ensures.value ∙ fan)

pub lattice_of-requires-clause-source : goal.lattice_of-requires-clause-source
lattice_of-requires-clause-source c = has_listed _ (HasseDiagram ∷ []) HasseDiagram (ap (λ k. k.sources) c.requires.kind)

pub put_value-requires-clause-target : goal.put_value-requires-clause-target
put_value-requires-clause-target c = has_listed _ (FVector ∷ []) FVector (ap (λ d. d.kind.targets) c.requires.empty ∙ ap (λ k. k.targets) c.requires.kind)

pub returns-clause-sound : goal.returns-clause-sound
returns-clause-sound c =
    let v = c.args.view.now in
    let no_fan = no_fan_of c.args.view.now (HasseDiagram ∷ []) HasseDiagram c.of.ensures.view (ap (λ k. k.sources) c.requires.kind) refl refl refl in
    counts_sound v no_fan c.args.draft.now c.put_value.new.draft c.lattice_of.result.now c.lattice_of.ensures.value c.lattice_of.ensures.forms
    (record { targets = ap (λ k. k.targets) c.requires.kind; empty = c.requires.empty; put = rw (c.from_vec.ensures, c.in_ok-counts.ensures) at c.in_ok-put_value.ensures.ok })
