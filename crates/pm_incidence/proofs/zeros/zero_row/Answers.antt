use Rattle.pm_incidence.proofs.Products.{listed}
use Rattle.pm_incidence.proofs.ThinFails.{product_in_list}
use Rattle.pm_incidence.proofs.zeros.zero_row.Goals as goal
use Rattle.std.proofs.lemmas.Result.{err_from_is_err_and}
use Rattle.std.specs.Prelude.{[], ◌∷◌}

pub returns-in_err-on-clause-failed : goal.returns-in_err-on-clause-failed
returns-in_err-on-clause-failed c =
    let cuts = c.args.cuts.now in
    let cut = c.index-cuts-p.result in
    let p = err_from_is_err_and c.from_residual-in_err-on.result c.from_residual-in_err-on.ensures.1 in
    rw (p.1, p.2) (product_in_list (c.args.row.now ∷ []) cuts cut c.in_err-on.field-0.0 (listed cuts c.loop-p.p cut c.loop-p-test.true c.index-cuts-p.is) c.in_err-on.ensures.failed)
