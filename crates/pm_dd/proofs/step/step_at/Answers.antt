use Rattle.pm_dd.proofs.StepFails.{product_never_lost}
use Rattle.pm_dd.proofs.step.step_at.Goals as goal
use Rattle.std.proofs.lemmas.Result.{err_from_is_err_and}

pub returns-in_err-values-clause-lost : goal.returns-in_err-values-clause-lost
returns-in_err-values-clause-lost c = λ e.
    let p = err_from_is_err_and c.from_residual.result c.from_residual.ensures.1 in
    rw (p.1, p.2) (product_never_lost c.in_err-values.field-0.0 c.args.wide _ e c.in_err-values.ensures.never)
