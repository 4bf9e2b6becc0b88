use Rattle.pm_clients_counts.proofs.FoundTruths.{pointed_follows}
use Rattle.pm_client.proofs.ViewLaws.{has_listed}
use Rattle.pm_clients_counts.proofs.truths.pointed.Goals as goal
use Rattle.pm_props.specs.declared.property.PropId.TheVariants.{LinealityDim, Pointed}
use Rattle.std.proofs.Common.{[], ap, ◌∙◌, ◌∷◌}

pub whole_of-is_pointed-requires-clause-source : goal.whole_of-is_pointed-requires-clause-source
whole_of-is_pointed-requires-clause-source c = has_listed _ (LinealityDim ∷ []) LinealityDim (ap (λ k. k.sources) c.requires.kind)

pub put_value-requires-clause-target : goal.put_value-requires-clause-target
put_value-requires-clause-target c = has_listed _ (Pointed ∷ []) Pointed (ap (λ d. d.kind.targets) c.requires.empty ∙ ap (λ k. k.targets) c.requires.kind)

pub returns-clause-sound : goal.returns-clause-sound
returns-clause-sound c =
    pointed_follows c.args.view.now c.whole_of-is_pointed.result c.args.draft.now c.put_value.new.draft c.whole_of-is_pointed.ensures.value
    c.whole_of-is_pointed.ensures.forms
    (record { targets = ap (λ k. k.targets) c.requires.kind; empty = c.requires.empty; put = c.in_ok-put_value.ensures.ok })
