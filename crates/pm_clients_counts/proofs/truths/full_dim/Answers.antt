use Rattle.pm_clients_counts.proofs.FoundTruths.{full_dim_follows}
use Rattle.pm_client.proofs.ViewLaws.{has_listed}
use Rattle.pm_clients_counts.proofs.truths.full_dim.Goals as goal
use Rattle.pm_props.specs.declared.property.PropId.TheVariants.{ConeDim, FullDim}
use Rattle.std.proofs.Common.{[], ap, ◌∙◌, ◌∷◌}

pub whole_of-requires-clause-source : goal.whole_of-requires-clause-source
whole_of-requires-clause-source c = has_listed _ (ConeDim ∷ []) ConeDim (ap (λ k. k.sources) c.requires.kind)

pub put_value-requires-clause-target : goal.put_value-requires-clause-target
put_value-requires-clause-target c = has_listed _ (FullDim ∷ []) FullDim (ap (λ d. d.kind.targets) c.requires.empty ∙ ap (λ k. k.targets) c.requires.kind)

pub returns-clause-sound : goal.returns-clause-sound
returns-clause-sound c =
    full_dim_follows c.args.view.now c.whole_of.result c.args.draft.now c.put_value.new.draft c.cols.result c.cols.ensures.value c.cols.ensures.view
    c.whole_of.ensures.value c.whole_of.ensures.forms
    (record { targets = ap (λ k. k.targets) c.requires.kind; empty = c.requires.empty; put = c.in_ok-put_value.ensures.ok })
