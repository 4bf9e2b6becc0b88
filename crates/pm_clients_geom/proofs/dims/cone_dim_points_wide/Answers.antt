use Rattle.pm_clients_geom.proofs.FoundDims.{rank_of_points}
use Rattle.pm_family.proofs.Failing.{takes_row_list}
use Rattle.pm_client.proofs.ViewLaws.{has_listed}
use Rattle.pm_clients_geom.proofs.dims.cone_dim_points_wide.Goals as goal
use Rattle.pm_standard.specs.declared.standard.StandardClient.TheVariants.{ConeDimPointsWide}
use Rattle.pm_props.specs.declared.property.PropId.TheVariants.{ConeDim, InputLineality, Points}
use Rattle.std.proofs.lemmas.Result.{err_from_is_err_and}
use Rattle.std.proofs.Common.{[], ap, refl, ◌∙◌, ◌∷◌}

pub rank_of_list-requires-clause-first : goal.rank_of_list-requires-clause-first
rank_of_list-requires-clause-first c = has_listed _ (Points ∷ InputLineality ∷ []) InputLineality (ap (λ k. k.sources) c.requires.kind)

pub rank_of_list-requires-clause-second : goal.rank_of_list-requires-clause-second
rank_of_list-requires-clause-second c = has_listed _ (Points ∷ InputLineality ∷ []) Points (ap (λ k. k.sources) c.requires.kind)

pub rank_of_list-requires-clause-eliminates : goal.rank_of_list-requires-clause-eliminates
rank_of_list-requires-clause-eliminates c = takes_row_list c.args.view.now ConeDimPointsWide c.requires.kind refl

pub put_value-requires-clause-target : goal.put_value-requires-clause-target
put_value-requires-clause-target c = has_listed _ (ConeDim ∷ []) ConeDim (ap (λ d. d.kind.targets) c.requires.empty ∙ ap (λ k. k.targets) c.requires.kind)

pub returns-clause-sound : goal.returns-clause-sound
returns-clause-sound c =
    rank_of_points c.args.view.now c.args.draft.now c.put_value.new.draft c.in_ok-dim.dim c.in_ok-dim.ensures.few
    (record { targets = ap (λ k. k.targets) c.requires.kind; empty = c.requires.empty; put = c.in_ok-put_value.ensures.ok }) c.in_ok-dim.ensures.rank

pub returns-in_err-dim-clause-lost : goal.returns-in_err-dim-clause-lost
returns-in_err-dim-clause-lost c =
    let p = err_from_is_err_and c.from_residual.result c.from_residual.ensures.1 in
    rw (p.1, p.2) (c.in_err-dim.ensures.lost refl)
