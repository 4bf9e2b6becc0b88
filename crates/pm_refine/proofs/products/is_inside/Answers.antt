use Rattle.pm_geom.specs.Cones.{CutOut}
use Rattle.pm_refine.proofs.Outcomes.{if_err, if_ok, ray_as}
use Rattle.pm_geom.proofs.Taken.{no_from}
use Rattle.pm_refine.proofs.products.is_inside.Goals as goal
use Rattle.pm_refine.specs.CutRows.{IsRowOf, cut_rows}
use Rattle.std.proofs.Common.{false, inl, inr, true, ◌↔◌, ◌≡◌}
use Rattle.std.proofs.lemmas.Result.{err_from_is_err_and}
use Rattle.std.specs.List.{Contains}
use Rattle.std.specs.Prelude.{IsTrue}

pub returns-then-not-cut_out-clause-inside : goal.returns-then-not-cut_out-clause-inside
returns-then-not-cut_out-clause-inside c =
    let cut : IsTrue c.in_ok-cut_out.cut_out ↔ CutOut c.args.cone.now.facets.items c.args.ray.now = rw c.deref.ensures.value at c.in_ok-cut_out.ensures.inside in
    no_from (λ h. let e : false ≡ true = rw c.if-not-cut_out.true at (cut.1 h.1) in cc)

pub returns-in_err-cut_out-clause-failed : goal.returns-in_err-cut_out-clause-failed
returns-in_err-cut_out-clause-failed c =
    let p = err_from_is_err_and c.from_residual.result c.from_residual.ensures.1 in
    rw (p.1, p.2) (ray_as c.args.of.now.first c.args.of.now.second c.args.ray.now (Contains c.args.cone.now.facets.items) (IsRowOf (cut_rows c.args.cone.now)) (λ r k. inl k) c.in_err-cut_out.field-0.0 (rw c.deref.ensures.value at c.in_err-cut_out.ensures.failed))

pub returns-clause-inside : goal.returns-clause-inside
returns-clause-inside c =
    let cut : IsTrue c.in_ok-cut_out.cut_out ↔ CutOut c.args.cone.now.facets.items c.args.ray.now = rw c.deref.ensures.value at c.in_ok-cut_out.ensures.inside in
    if_ok c.is_null.result (λ b w. (λ t. (w.0 t, cut.0 c.if-not-cut_out.false), λ h. w.1 h.0)) (rw c.deref-2.ensures.value at c.is_null.ensures.inside)

pub returns-clause-failed : goal.returns-clause-failed
returns-clause-failed c =
    if_err c.is_null.result (λ f w. ray_as c.args.of.now.first c.args.of.now.second c.args.ray.now (Contains c.args.cone.now.hull.items) (IsRowOf (cut_rows c.args.cone.now)) (λ r k. inr k) f w) (rw c.deref-2.ensures.value at c.is_null.ensures.failed)
