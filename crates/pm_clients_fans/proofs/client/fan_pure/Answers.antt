use Rattle.pm_client.proofs.ViewLaws.{has_listed, target_named}
use Rattle.pm_clients_fans.proofs.Fans.{fan_view}
use Rattle.pm_clients_fans.proofs.FoundFans.{pure_sound}
use Rattle.pm_clients_fans.proofs.client.fan_pure.Goals as goal
use Rattle.pm_object.specs.Reading.{IsView, ViewSeen}
use Rattle.pm_standard.specs.Table.{standard_kind}
use Rattle.pm_object_type.specs.declared.object_type.ObjectType.TheVariants.{Fan}
use Rattle.pm_props.specs.declared.property.PropId.TheVariants.{MaximalConesDims, Pure}
use Rattle.pm_props.specs.declared.property.PropId.{PropId}
use Rattle.pm_standard.specs.declared.standard.StandardClient.TheVariants as client
use Rattle.std.proofs.Common.{[], ap, refl, rules, ◌∙◌, ◌∷◌, ◌≡◌}
use Rattle.std.specs.Prelude.{List}

abbrev sources : List PropId
sources = MaximalConesDims ∷ []

of_fan : (v : ViewSeen) → IsView v → v.kind ≡ standard_kind client.FanPure → v.of ≡ Fan
of_fan v view kind = fan_view v Pure view (target_named v.kind Pure (has_listed _ (Pure ∷ []) Pure (ap (λ k. k.targets) kind))) refl refl refl

pub prove-unreachable-requires : goal.prove-unreachable-requires
prove-unreachable-requires c =
    let other : ¬ (c.of.result ≡ Fan) = search rules in
    other (c.of.ensures.value ∙ of_fan c.args.view.now c.of.ensures.view c.requires.kind)

pub put_value-requires-clause-target : goal.put_value-requires-clause-target
put_value-requires-clause-target c = has_listed _ (Pure ∷ []) Pure (ap (λ d. d.kind.targets) c.requires.empty ∙ ap (λ k. k.targets) c.requires.kind)

pub counts_of-dims-requires-clause-source : goal.counts_of-dims-requires-clause-source
counts_of-dims-requires-clause-source c = has_listed _ sources MaximalConesDims (ap (λ k. k.sources) c.requires.kind)

pub returns-clause-sound : goal.returns-clause-sound
returns-clause-sound c =
    pure_sound c.args.view.now (of_fan c.args.view.now c.of.ensures.view c.requires.kind) c.args.draft.now c.put_value.new.draft c.counts_of-dims.result.now c.counts_of-dims.ensures.value c.counts_of-dims.ensures.forms c.are_one-is_pure.result (rw c.as_slice.ensures at c.are_one-is_pure.ensures)
    (record { targets = ap (λ k. k.targets) c.requires.kind; empty = c.requires.empty; put = c.in_ok-put_value.ensures.ok })
