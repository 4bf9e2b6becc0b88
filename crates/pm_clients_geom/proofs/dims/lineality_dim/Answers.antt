use Rattle.pm_clients_geom.proofs.FoundDims.{number_of_lines}
use Rattle.pm_client.proofs.ViewLaws.{has_listed}
use Rattle.pm_clients_geom.proofs.dims.lineality_dim.Goals as goal
use Rattle.pm_props.specs.declared.property.PropId.TheVariants.{LinealityDim, LinealitySpace}
use Rattle.std.proofs.Common.{[], ap, ◌∙◌, ◌∷◌}

pub matrix_of-lineality-requires-clause-source : goal.matrix_of-lineality-requires-clause-source
matrix_of-lineality-requires-clause-source c = has_listed _ (LinealitySpace ∷ []) LinealitySpace (ap (λ k. k.sources) c.requires.kind)

pub put_value-requires-clause-target : goal.put_value-requires-clause-target
put_value-requires-clause-target c = has_listed _ (LinealityDim ∷ []) LinealityDim (ap (λ d. d.kind.targets) c.requires.empty ∙ ap (λ k. k.targets) c.requires.kind)

pub returns-clause-sound : goal.returns-clause-sound
returns-clause-sound c =
    number_of_lines c.args.view.now c.args.draft.now c.put_value.new.draft c.matrix_of-lineality.result.now.cols c.rows-dim.result
    c.matrix_of-lineality.result.now.rows c.rows-dim.ensures.value c.matrix_of-lineality.ensures.value c.matrix_of-lineality.ensures.forms
    (record { targets = ap (λ k. k.targets) c.requires.kind; empty = c.requires.empty; put = c.in_ok-put_value.ensures.ok })
