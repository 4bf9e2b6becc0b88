use Rattle.pm_vector.proofs.Lists.{among_All, among_Contains}
use Rattle.pm_geom.proofs.Polar.{cols_at}
use Rattle.pm_laws_normal_fans.specs.Refinements.{InHalfSpaces}
use Rattle.pm_refine.proofs.Outcomes.{small_as, test_of_ray}
use Rattle.pm_geom.proofs.Taken.{listed, no_from}
use Rattle.pm_refine.proofs.products.are_inside.Goals as goal
use Rattle.pm_refine.specs.CutRows.{IsRowOf, cut_rows, intersection_of}
use Rattle.std.proofs.Common.{false, length, true, ◌≡◌}
use Rattle.std.proofs.lemmas.Result.{err_from_is_err_and}
use Rattle.std.specs.List.{Contains}

pub is_inside-requires : goal.is_inside-requires
is_inside-requires c =
    let rays = c.args.of.now.rays.items in
    let ray = c.ray-item.result in
    let has : Contains rays ray = rw c.deref-ray-items.ensures.value at (listed c.deref-ray-items.result.now c.loop-ray.ray-index ray c.loop-ray-test.true c.ray-item.is) in
    small_as c.args.cols (length ray) (cut_rows c.args.cone.now) (cols_at (among_Contains rays has) c.requires.rays) c.requires.cone

pub returns-in_err-inside-clause-failed : goal.returns-in_err-inside-clause-failed
returns-in_err-inside-clause-failed c =
    let p = err_from_is_err_and c.from_residual.result c.from_residual.ensures.1 in
    let rays = c.args.of.now.rays.items in
    let ray = c.ray-item.result in
    let has : Contains rays ray = rw c.deref-ray-items.ensures.value at (listed c.deref-ray-items.result.now c.loop-ray.ray-index ray c.loop-ray-test.true c.ray-item.is) in
    rw (p.1, p.2) (test_of_ray (intersection_of c.args.of.now) ray (IsRowOf (cut_rows c.args.cone.now)) c.in_err-inside.field-0.0 has c.in_err-inside.ensures.failed)

pub returns-then-not-inside-clause-inside : goal.returns-then-not-inside-clause-inside
returns-then-not-inside-clause-inside c =
    let rays = c.args.of.now.rays.items in
    let ray = c.ray-item.result in
    let has : Contains rays ray = rw c.deref-ray-items.ensures.value at (listed c.deref-ray-items.result.now c.loop-ray.ray-index ray c.loop-ray-test.true c.ray-item.is) in
    no_from (λ h. let e : false ≡ true = rw c.if-not-inside.true at (c.in_ok-inside.ensures.inside.1 (among_All (InHalfSpaces c.args.cone.now.facets.items c.args.cone.now.hull.items) (among_Contains rays has) h)) in cc)
