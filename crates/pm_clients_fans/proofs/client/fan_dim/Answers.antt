use Rattle.pm_client.proofs.ViewLaws.{has_listed, target_named}
use Rattle.pm_clients_fans.proofs.Fans.{fan_view}
use Rattle.pm_clients_fans.proofs.FoundFans.{dim_sound}
use Rattle.pm_clients_fans.proofs.client.fan_dim.Goals as goal
use Rattle.pm_object.specs.Reading.{IsView, ViewSeen}
use Rattle.pm_standard.specs.Table.{standard_kind}
use Rattle.pm_object_type.specs.declared.object_type.ObjectType.TheVariants.{Fan}
use Rattle.pm_props.specs.declared.property.PropId.TheVariants.{FanDim, MaximalConesDims}
use Rattle.pm_props.specs.declared.property.PropId.{PropId}
use Rattle.pm_standard.specs.declared.standard.StandardClient.TheVariants as client
use Rattle.std.proofs.Common.{[], ap, refl, rules, subst, sym, ◌∙◌, ◌∷◌, ◌≡◌}
use Rattle.pm_clients_fans.specs.Numbers.{IsMost}
use Rattle.std.specs.Option.{unwrap_or}
use Rattle.std.specs.Prelude.{List, Option}
use lib.IntN.{negsuc, ℤ}

abbrev sources : List PropId
sources = MaximalConesDims ∷ []

of_fan : (v : ViewSeen) → IsView v → v.kind ≡ standard_kind client.FanDim → v.of ≡ Fan
of_fan v view kind = fan_view v FanDim view (target_named v.kind FanDim (has_listed _ (FanDim ∷ []) FanDim (ap (λ k. k.targets) kind))) refl refl refl

pub prove-unreachable-requires : goal.prove-unreachable-requires
prove-unreachable-requires c =
    let other : ¬ (c.of.result ≡ Fan) = search rules in
    other (c.of.ensures.value ∙ of_fan c.args.view.now c.of.ensures.view c.requires.kind)

pub put_value-requires-clause-target : goal.put_value-requires-clause-target
put_value-requires-clause-target c = has_listed _ (FanDim ∷ []) FanDim (ap (λ d. d.kind.targets) c.requires.empty ∙ ap (λ k. k.targets) c.requires.kind)

pub counts_of-dims-requires-clause-source : goal.counts_of-dims-requires-clause-source
counts_of-dims-requires-clause-source c = has_listed _ sources MaximalConesDims (ap (λ k. k.sources) c.requires.kind)

pub returns-clause-sound : goal.returns-clause-sound
returns-clause-sound c =
    let dims = c.counts_of-dims.result.now in
    let is = c.unwrap_or-dim.ensures ∙ ap (λ (o : Option ℤ). unwrap_or o (negsuc 0)) c.copied.ensures in
    dim_sound c.args.view.now (of_fan c.args.view.now c.of.ensures.view c.requires.kind) c.args.draft.now c.put_value.new.draft dims c.counts_of-dims.ensures.value c.counts_of-dims.ensures.forms c.unwrap_or-dim.result (subst (λ z. IsMost dims z) (sym is) (rw c.as_slice.ensures at c.greatest.ensures))
    (record { targets = ap (λ k. k.targets) c.requires.kind; empty = c.requires.empty; put = c.in_ok-put_value.ensures.ok })
