use Rattle.pm_clients_geom.proofs.FoundDims.{difference_less_one}
use Rattle.pm_client.proofs.ViewLaws.{has_listed}
use Rattle.pm_clients_geom.proofs.dims.combinatorial_dim.Goals as goal
use Rattle.pm_props.specs.declared.property.PropId.TheVariants.{CombinatorialDim, ConeDim, LinealityDim}
use Rattle.std.proofs.Common.{[], ap, ◌∙◌, ◌∷◌}

pub whole_of-cone-requires-clause-source : goal.whole_of-cone-requires-clause-source
whole_of-cone-requires-clause-source c = has_listed _ (ConeDim ∷ LinealityDim ∷ []) ConeDim (ap (λ k. k.sources) c.requires.kind)

pub whole_of-lineality-requires-clause-source : goal.whole_of-lineality-requires-clause-source
whole_of-lineality-requires-clause-source c = has_listed _ (ConeDim ∷ LinealityDim ∷ []) LinealityDim (ap (λ k. k.sources) c.requires.kind)

pub put_value-requires-clause-target : goal.put_value-requires-clause-target
put_value-requires-clause-target c = has_listed _ (CombinatorialDim ∷ []) CombinatorialDim (ap (λ d. d.kind.targets) c.requires.empty ∙ ap (λ k. k.targets) c.requires.kind)

pub returns-clause-sound : goal.returns-clause-sound
returns-clause-sound c =
    difference_less_one c.args.view.now c.args.draft.now c.put_value.new.draft c.whole_of-cone.result c.whole_of-lineality.result c.saturating_sub.result
    c.saturating_sub-dim.result c.saturating_sub.ensures c.saturating_sub-dim.ensures c.whole_of-cone.ensures.value c.whole_of-lineality.ensures.value
    c.whole_of-cone.ensures.forms c.whole_of-lineality.ensures.forms
    (record { targets = ap (λ k. k.targets) c.requires.kind; empty = c.requires.empty; put = c.in_ok-put_value.ensures.ok })
