use Rattle.pm_clients_geom.proofs.FoundDims.{what_hull_leaves}
use Rattle.pm_client.proofs.ViewLaws.{has_listed}
use Rattle.pm_clients_geom.proofs.dims.cone_dim_span.Goals as goal
use Rattle.pm_props.specs.declared.property.PropId.TheVariants.{AffineHull, ConeDim}
use Rattle.std.proofs.Common.{[], ap, ◌∙◌, ◌∷◌}

pub matrix_of-hull-requires-clause-source : goal.matrix_of-hull-requires-clause-source
matrix_of-hull-requires-clause-source c = has_listed _ (AffineHull ∷ []) AffineHull (ap (λ k. k.sources) c.requires.kind)

pub put_value-requires-clause-target : goal.put_value-requires-clause-target
put_value-requires-clause-target c = has_listed _ (ConeDim ∷ []) ConeDim (ap (λ d. d.kind.targets) c.requires.empty ∙ ap (λ k. k.targets) c.requires.kind)

pub returns-clause-sound : goal.returns-clause-sound
returns-clause-sound c =
    what_hull_leaves c.args.view.now c.args.draft.now c.put_value.new.draft c.matrix_of-hull.result.now.cols c.cols.result c.rows.result
    c.matrix_of-hull.result.now.rows c.cols.ensures.value c.rows.ensures.value c.cols.ensures.view c.matrix_of-hull.ensures.value
    c.matrix_of-hull.ensures.forms
    (record { targets = ap (λ k. k.targets) c.requires.kind; empty = c.requires.empty; put = c.in_ok-put_value.ensures.ok })
