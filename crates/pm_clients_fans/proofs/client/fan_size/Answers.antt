use Rattle.pm_client.proofs.ViewLaws.{has_listed, target_named}
use Rattle.pm_clients_fans.proofs.Fans.{fan_view}
use Rattle.pm_clients_fans.proofs.FoundFans.{size_sound}
use Rattle.pm_clients_fans.proofs.client.fan_size.Goals as goal
use Rattle.pm_object.specs.Reading.{IsView, ViewSeen}
use Rattle.pm_standard.specs.Table.{standard_kind}
use Rattle.pm_object_type.specs.declared.object_type.ObjectType.TheVariants.{Fan}
use Rattle.pm_props.specs.declared.property.PropId.TheVariants.{MaximalCones, NMaximalCones}
use Rattle.pm_props.specs.declared.property.PropId.{PropId}
use Rattle.pm_standard.specs.declared.standard.StandardClient.TheVariants as client
use Rattle.std.proofs.Common.{[], ap, length, refl, rules, sym, ◌∙◌, ◌∷◌, ◌≡◌}
use Rattle.std.proofs.lemmas.List.{length-map}
use Rattle.std.specs.Prelude.{List}

abbrev sources : List PropId
sources = MaximalCones ∷ []

of_fan : (v : ViewSeen) → IsView v → v.kind ≡ standard_kind client.FanSize → v.of ≡ Fan
of_fan v view kind = fan_view v NMaximalCones view (target_named v.kind NMaximalCones (has_listed _ (NMaximalCones ∷ []) NMaximalCones (ap (λ k. k.targets) kind))) refl refl refl

pub prove-unreachable-requires : goal.prove-unreachable-requires
prove-unreachable-requires c =
    let other : ¬ (c.of.result ≡ Fan) = search rules in
    other (c.of.ensures.value ∙ of_fan c.args.view.now c.of.ensures.view c.requires.kind)

pub put_value-requires-clause-target : goal.put_value-requires-clause-target
put_value-requires-clause-target c = has_listed _ (NMaximalCones ∷ []) NMaximalCones (ap (λ d. d.kind.targets) c.requires.empty ∙ ap (λ k. k.targets) c.requires.kind)

pub sets_of-requires-clause-source : goal.sets_of-requires-clause-source
sets_of-requires-clause-source c = has_listed _ sources MaximalCones (ap (λ k. k.sources) c.requires.kind)

pub returns-clause-sound : goal.returns-clause-sound
returns-clause-sound c =
    size_sound c.args.view.now (of_fan c.args.view.now c.of.ensures.view c.requires.kind) c.args.draft.now c.put_value.new.draft c.sets_of.result.now.rows c.sets_of.result.now.cols c.sets_of.ensures.value c.sets_of.ensures.forms (length c.rows.result.now) (sym (length-map c.rows.result.now (λ r. r.items)) ∙ ap length c.rows.ensures)
    (record { targets = ap (λ k. k.targets) c.requires.kind; empty = c.requires.empty; put = c.in_ok-put_value.ensures.ok })
