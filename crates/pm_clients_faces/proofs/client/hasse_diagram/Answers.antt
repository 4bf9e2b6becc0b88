use Rattle.pm_client.proofs.ViewLaws.{has_listed, not_fan, source_named}
use Rattle.pm_client.specs.Sound.{fail_of_lattice}
use Rattle.pm_clients_faces.proofs.Answered.{faces_sound, fails_for_many, fails_rightly}
use Rattle.pm_clients_faces.proofs.FaceForms.{sets_below}
use Rattle.pm_clients_faces.proofs.client.hasse_diagram.Goals as goal
use Rattle.pm_object_type.specs.declared.object_type.ObjectType.TheVariants.{Fan}
use Rattle.pm_props.specs.declared.property.PropId.TheVariants.{HasseDiagram, VerticesInFacets}
use Rattle.std.proofs.Common.{[], ap, refl, rules, sym, ◌∙◌, ◌∷◌, ◌≡◌}
use Rattle.std.proofs.lemmas.Result.{err_from_is_err_and}

pub prove-unreachable-requires : goal.prove-unreachable-requires
prove-unreachable-requires c =
    let v = c.args.view.now in
    let fan : c.of.result ≡ Fan = search rules in
    not_fan v VerticesInFacets c.of.ensures.view (source_named v.kind VerticesInFacets (has_listed _ (VerticesInFacets ∷ []) VerticesInFacets (ap (λ k. k.sources) c.requires.kind))) refl refl (sym c.of.ensures.value ∙ fan)

pub sets_of-requires-clause-source : goal.sets_of-requires-clause-source
sets_of-requires-clause-source c = has_listed _ (VerticesInFacets ∷ []) VerticesInFacets (ap (λ k. k.sources) c.requires.kind)

pub faces-requires : goal.faces-requires
faces-requires c = sets_below c.sets_of.result.now.rows c.sets_of.result.now.cols c.sets_of.ensures.forms.formed

pub put_value-requires-clause-target : goal.put_value-requires-clause-target
put_value-requires-clause-target c = has_listed _ (HasseDiagram ∷ []) HasseDiagram (ap (λ d. d.kind.targets) c.requires.empty ∙ ap (λ k. k.targets) c.requires.kind)

pub returns-in_err-lattice-clause-fails : goal.returns-in_err-lattice-clause-fails
returns-in_err-lattice-clause-fails c =
    let w = fails_for_many c.args.view.now c.sets_of.result.now c.in_err-lattice.field-0.0 c.requires.kind c.sets_of.ensures.value c.in_err-lattice.ensures.fail in
    let p = err_from_is_err_and c.from_residual.result c.from_residual.ensures.1 in
    rw (p.1, p.2) w

pub returns-in_err-lattice-clause-failed : goal.returns-in_err-lattice-clause-failed
returns-in_err-lattice-clause-failed c =
    let w = fails_rightly c.args.view.now (fail_of_lattice c.in_err-lattice.field-0.0) (fails_for_many c.args.view.now c.sets_of.result.now c.in_err-lattice.field-0.0 c.requires.kind c.sets_of.ensures.value c.in_err-lattice.ensures.fail) in
    let p = err_from_is_err_and c.from_residual.result c.from_residual.ensures.1 in
    rw (p.1, p.2) w

pub returns-clause-sound : goal.returns-clause-sound
returns-clause-sound c =
    let v = c.args.view.now in
    let no_fan = not_fan v VerticesInFacets c.of.ensures.view (source_named v.kind VerticesInFacets (has_listed _ (VerticesInFacets ∷ []) VerticesInFacets (ap (λ k. k.sources) c.requires.kind))) refl refl in
    faces_sound v no_fan c.args.draft.now c.put_value.new.draft c.sets_of.result.now.rows c.sets_of.result.now.cols c.in_ok-lattice.lattice c.sets_of.ensures.value c.sets_of.ensures.forms c.in_ok-lattice.ensures.lattice c.in_ok-lattice.ensures.small
    (record { targets = ap (λ k. k.targets) c.requires.kind; empty = c.requires.empty; put = c.in_ok-put_value.ensures.ok })

pub returns-clause-stays : goal.returns-clause-stays
returns-clause-stays c = record {
  index = c.sets_of.result.now;
  reads = c.sets_of.ensures.value;
  ranks = c.in_ok-lattice.lattice;
  faces = c.in_ok-lattice.ensures.lattice;
  small = c.in_ok-lattice.ensures.small;
}
