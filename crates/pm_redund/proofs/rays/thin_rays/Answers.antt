use Rattle.pm_incidence.proofs.Thinned.{thinned_length}
use Rattle.pm_redund.proofs.Canonical.{thin_generators, thinned_cols}
use Rattle.pm_redund.proofs.Refusals.{thin_of_reduction}
use Rattle.pm_redund.proofs.rays.thin_rays.Goals as goal
use Rattle.std.proofs.Common.{arith, sym}
use Rattle.std.proofs.lemmas.Result.{err_from_is_err_and}

pub returns-in_err-thin-clause-failed : goal.returns-in_err-thin-clause-failed
returns-in_err-thin-clause-failed c =
    let k = rw (sym c.kept.view_is) at c.in_ok-kept.ensures.kept in
    let p = err_from_is_err_and c.from_residual-in_err-thin.result c.from_residual-in_err-thin.ensures.1 in
    rw (p.1, p.2) (thin_of_reduction c.args.cols c.args.rays.now c.args.lineality.now _ _ _ k c.in_err-thin.field-0.0 c.in_err-thin.ensures.failed)

pub returns-clause-generators : goal.returns-clause-generators
returns-clause-generators c =
    let k = rw (sym c.kept.view_is) at c.in_ok-kept.ensures.kept in
    let s = rw c.deref-2.ensures.value at c.in_ok-thin.ensures.thinned in
    thin_generators c.args.cols c.args.rays.now c.args.lineality.now c.requires.ray_cols c.requires.line_cols _ _ _ k c.in_ok-thin.thin.items s

pub returns-clause-cols : goal.returns-clause-cols
returns-clause-cols c =
    let k = rw (sym c.kept.view_is) at c.in_ok-kept.ensures.kept in
    let s = rw c.deref-2.ensures.value at c.in_ok-thin.ensures.thinned in
    thinned_cols c.args.cols c.args.rays.now c.args.lineality.now c.requires.ray_cols c.requires.line_cols _ _ _ k c.in_ok-thin.thin.items s

pub returns-clause-few : goal.returns-clause-few
returns-clause-few c =
    let s = rw c.deref-2.ensures.value at c.in_ok-thin.ensures.thinned in
    let e = thinned_length _ _ c.args.rays.now _ c.in_ok-thin.thin.items s in
    let f = rw (sym c.kept.view_is) at c.in_ok-kept.ensures.few in
    omega arith
