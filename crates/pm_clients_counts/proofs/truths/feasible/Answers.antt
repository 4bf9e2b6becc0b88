use Rattle.pm_clients_counts.proofs.FoundTruths.{feasible_follows}
use Rattle.pm_client.proofs.ViewLaws.{has_listed}
use Rattle.pm_clients_counts.proofs.truths.feasible.Goals as goal
use Rattle.pm_props.specs.declared.property.PropId.TheVariants.{ConeDim, Feasible}
use Rattle.std.proofs.Common.{[], ap, ◌∙◌, ◌∷◌}

pub whole_of-is_feasible-requires-clause-source : goal.whole_of-is_feasible-requires-clause-source
whole_of-is_feasible-requires-clause-source c = has_listed _ (ConeDim ∷ []) ConeDim (ap (λ k. k.sources) c.requires.kind)

pub put_value-requires-clause-target : goal.put_value-requires-clause-target
put_value-requires-clause-target c = has_listed _ (Feasible ∷ []) Feasible (ap (λ d. d.kind.targets) c.requires.empty ∙ ap (λ k. k.targets) c.requires.kind)

pub returns-clause-sound : goal.returns-clause-sound
returns-clause-sound c =
    feasible_follows c.args.view.now c.whole_of-is_feasible.result c.args.draft.now c.put_value.new.draft c.whole_of-is_feasible.ensures.value
    c.whole_of-is_feasible.ensures.forms
    (record { targets = ap (λ k. k.targets) c.requires.kind; empty = c.requires.empty; put = c.in_ok-put_value.ensures.ok })
