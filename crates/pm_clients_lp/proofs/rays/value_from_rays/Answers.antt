use Rattle.pm_client.proofs.ViewLaws.{has_listed}
use Rattle.pm_client.specs.Sound.{FailsRightly, IsWideAtRays}
use Rattle.pm_clients_lp.proofs.Facts.{lines_level, objective_cols, objective_some, objective_stays, program_view, rays_ahead, rows_cols}
use Rattle.pm_clients_lp.proofs.Failing.{fails_rightly, rays_fail, rays_hold}
use Rattle.pm_clients_lp.proofs.Found.{rays_sound}
use Rattle.pm_clients_lp.proofs.StandardKinds.{has_optimum, ray_sources, rays_found, rays_read}
use Rattle.pm_clients_lp.proofs.rays.value_from_rays.Goals as goal
use Rattle.pm_clients_lp.specs.Clients.{FailsBy}
use Rattle.pm_object_type.specs.declared.object_type.ObjectType.TheVariants.{Polytope}
use Rattle.pm_props.specs.declared.property.PropId.TheVariants.{LinealitySpace, LinearObjective, Vertices}
use Rattle.pm_client.specs.Sound.{fail_of_program}
use Rattle.pm_types.specs.Views.{extended_of}
use Rattle.std.proofs.Common.{[], ap, refl, rules, subst, sym, ◌∙◌, ◌≡◌}
use Rattle.std.proofs.lemmas.Result.{err_from_is_err_and}

pub prove-unreachable-requires : goal.prove-unreachable-requires
prove-unreachable-requires c =
    let v = c.args.view.now in
    let other : ¬ (c.of.result ≡ Polytope) = search rules in
    other (c.of.ensures.value ∙ program_view v c.of.ensures.view (has_listed _ ray_sources LinearObjective (rays_read v.kind c.args.sense c.args.wide c.requires.kind)))

pub rows_of-requires-clause-source : goal.rows_of-requires-clause-source
rows_of-requires-clause-source c = has_listed _ ray_sources LinealitySpace (rays_read c.args.view.now.kind c.args.sense c.args.wide c.requires.kind)

pub rows_of-requires-2-clause-source : goal.rows_of-requires-2-clause-source
rows_of-requires-2-clause-source c = has_listed _ ray_sources Vertices (rays_read c.args.view.now.kind c.args.sense c.args.wide c.requires.kind)

pub objective_of-requires : goal.objective_of-requires
objective_of-requires c = has_listed _ ray_sources LinearObjective (rays_read c.args.view.now.kind c.args.sense c.args.wide c.requires.kind)

pub value_at_rays_by-requires-clause-stays : goal.value_at_rays_by-requires-clause-stays
value_at_rays_by-requires-clause-stays c = objective_stays c.args.view.now c.of.ensures.view c.objective_of.result.now c.objective_of.ensures

pub value_at_rays_by-requires-clause-some : goal.value_at_rays_by-requires-clause-some
value_at_rays_by-requires-clause-some c = objective_some c.args.view.now c.of.ensures.view c.objective_of.result.now c.objective_of.ensures

pub value_at_rays_by-requires-clause-ray_cols : goal.value_at_rays_by-requires-clause-ray_cols
value_at_rays_by-requires-clause-ray_cols c =
    let v = c.args.view.now in
    rw (c.deref.ensures.value, objective_cols v c.of.ensures.view c.objective_of.result.now c.objective_of.ensures) (rows_cols v c.of.ensures.view Vertices refl c.in_ok-rays.rays.items c.in_ok-rays.ensures.read)

pub value_at_rays_by-requires-clause-line_cols : goal.value_at_rays_by-requires-clause-line_cols
value_at_rays_by-requires-clause-line_cols c =
    let v = c.args.view.now in
    rw (c.deref-2.ensures.value, objective_cols v c.of.ensures.view c.objective_of.result.now c.objective_of.ensures) (rows_cols v c.of.ensures.view LinealitySpace refl c.in_ok-lines.lines.items c.in_ok-lines.ensures.read)

pub value_at_rays_by-requires-clause-ahead : goal.value_at_rays_by-requires-clause-ahead
value_at_rays_by-requires-clause-ahead c =
    let v = c.args.view.now in
    let polytope = program_view v c.of.ensures.view (has_listed _ ray_sources LinearObjective (rays_read v.kind c.args.sense c.args.wide c.requires.kind)) in
    rw c.deref.ensures.value (rays_ahead v c.of.ensures.view polytope c.in_ok-rays.rays.items c.in_ok-rays.ensures.read)

pub value_at_rays_by-requires-clause-level : goal.value_at_rays_by-requires-clause-level
value_at_rays_by-requires-clause-level c =
    let v = c.args.view.now in
    let polytope = program_view v c.of.ensures.view (has_listed _ ray_sources LinearObjective (rays_read v.kind c.args.sense c.args.wide c.requires.kind)) in
    rw c.deref-2.ensures.value (lines_level v c.of.ensures.view polytope c.in_ok-lines.lines.items c.in_ok-lines.ensures.read)

pub put_number-requires-clause-target : goal.put_number-requires-clause-target
put_number-requires-clause-target c = rw c.value_in.ensures (has_optimum _ c.args.sense [] (ap (λ d. d.kind.targets) c.requires.empty ∙ rays_found c.args.view.now.kind c.args.sense c.args.wide c.requires.kind))

pub returns-clause-sound : goal.returns-clause-sound
returns-clause-sound c =
    let v = c.args.view.now in
    rays_sound v c.of.ensures.view c.objective_of.result.now c.objective_of.ensures c.in_ok-rays.rays.items c.in_ok-rays.ensures.read c.in_ok-lines.lines.items c.in_ok-lines.ensures.read c.args.sense (extended_of c.in_ok-value.value)
    (rw (c.deref.ensures.value, c.deref-2.ensures.value) at c.in_ok-value.ensures.value) c.in_ok-put_number.ensures.fraction c.args.draft.now c.put_number.new.draft
    (record { targets = rays_found v.kind c.args.sense c.args.wide c.requires.kind; empty = c.requires.empty; put = rw c.value_in.ensures at c.in_ok-put_number.ensures.ok })

pub returns-in_err-value-clause-fails : goal.returns-in_err-value-clause-fails
returns-in_err-value-clause-fails c =
    let v = c.args.view.now in
    let w = err_from_is_err_and c.from_residual-in_err-value.result c.from_residual-in_err-value.ensures.1 in
    rw w.1 (subst (FailsBy (IsWideAtRays v)) (sym w.2)
    (rays_fail v c.args.sense c.objective_of.result.now c.objective_of.ensures c.in_err-value.field-0.0 c.args.wide c.requires.kind c.in_ok-rays.rays.items c.in_ok-lines.lines.items c.in_ok-rays.ensures.read c.in_ok-lines.ensures.read
    (rw (c.deref.ensures.value, c.deref-2.ensures.value) at c.in_err-value.ensures.wide)))

pub returns-in_err-value-clause-failed : goal.returns-in_err-value-clause-failed
returns-in_err-value-clause-failed c =
    let v = c.args.view.now in
    let w = err_from_is_err_and c.from_residual-in_err-value.result c.from_residual-in_err-value.ensures.1 in
    rw w.1 (subst (FailsRightly v) (sym w.2) (fails_rightly v (IsWideAtRays v) (rays_hold v) (fail_of_program c.in_err-value.field-0.0)
    (rays_fail v c.args.sense c.objective_of.result.now c.objective_of.ensures c.in_err-value.field-0.0 c.args.wide c.requires.kind c.in_ok-rays.rays.items c.in_ok-lines.lines.items c.in_ok-rays.ensures.read c.in_ok-lines.ensures.read
    (rw (c.deref.ensures.value, c.deref-2.ensures.value) at c.in_err-value.ensures.wide))))
