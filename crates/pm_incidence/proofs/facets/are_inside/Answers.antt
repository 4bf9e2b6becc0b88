use Rattle.pm_dd.specs.Fronts.{HalfSpaces}
use Rattle.pm_vector.proofs.Lists.{among_All, among_Contains}
use Rattle.pm_geom.proofs.Polar.{cols_at}
use Rattle.pm_incidence.proofs.Products.{listed}
use Rattle.pm_geom.proofs.Taken.{no_from}
use Rattle.pm_incidence.specs.Thinning.{half_spaces}
use Rattle.std.proofs.Common.{false, true, ◌≡◌}
use Rattle.pm_incidence.proofs.ThinFails.{inside_of}
use Rattle.pm_incidence.proofs.facets.are_inside.Goals as goal
use Rattle.std.proofs.lemmas.Result.{err_from_is_err_and}

pub returns-in_err-inside-clause-failed : goal.returns-in_err-inside-clause-failed
returns-in_err-inside-clause-failed c =
    let p = err_from_is_err_and c.from_residual.result c.from_residual.ensures.1 in
    let ray = c.ray-item.result in
    rw (p.1, p.2) (inside_of c.args.rows.now c.args.equations.now c.args.rays.now ray c.in_err-inside.field-0.0 (listed c.args.rays.now c.loop-ray.ray-index ray c.loop-ray-test.true c.ray-item.is) c.in_err-inside.ensures.failed)

pub returns-then-not-inside-clause-inside : goal.returns-then-not-inside-clause-inside
returns-then-not-inside-clause-inside c =
    let ray = c.ray-item.result in
    let has = among_Contains c.args.rays.now (listed c.args.rays.now c.loop-ray.ray-index ray c.loop-ray-test.true c.ray-item.is) in
    let inside = HalfSpaces c.args.equations.now (half_spaces c.args.of c.args.cols c.args.rows.now) in
    no_from (λ h. let e : false ≡ true = rw c.if-not-inside.true at (c.in_ok-inside.ensures.inside.1 (rw (cols_at has c.requires.ray_cols) (among_All inside has h))) in cc)
