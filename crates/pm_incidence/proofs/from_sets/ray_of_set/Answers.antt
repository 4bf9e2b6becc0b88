use Rattle.pm_dd.proofs.Outcomes.{err_weaker, ok_weaker}
use Rattle.pm_incidence.proofs.SetRows.{determining_cols, determining_few, only_length, set_fail, sign_fail}
use Rattle.pm_incidence.proofs.from_sets.ray_of_set.Goals as goal
use Rattle.std.proofs.Common.{◌∙◌}
use Rattle.std.proofs.lemmas.Result.{err_from_is_err_and}

pub null_space_by-requires-clause-columns : goal.null_space_by-requires-clause-columns
null_space_by-requires-clause-columns c = rw (c.deref.ensures.value, c.in_ok-rows.ensures) (determining_cols c.args.cols c.args.equations.now c.args.cuts.now c.args.set.now c.args.pivots.now c.requires.equation_cols c.requires.cut_cols)

pub null_space_by-requires-clause-few_rows : goal.null_space_by-requires-clause-few_rows
null_space_by-requires-clause-few_rows c = rw (c.deref.ensures.value, c.in_ok-rows.ensures) (determining_few c.args.cols c.args.equations.now c.args.cuts.now c.args.set.now c.args.pivots.now c.requires.few_equations c.requires.few_places c.requires.few_pivots)

pub returns-in_err-null_space_by-clause-failed : goal.returns-in_err-null_space_by-clause-failed
returns-in_err-null_space_by-clause-failed c =
    let p = err_from_is_err_and c.from_residual-in_err-null_space_by.result c.from_residual-in_err-null_space_by.ensures.1 in
    rw (p.1, p.2) (λ lines b. set_fail c.args.cols c.args.equations.now c.args.cuts.now c.args.set.now c.args.pivots.now lines b c.deref.result.now (c.deref.ensures.value ∙ c.in_ok-rows.ensures) c.in_err-null_space_by.field-0.0 c.in_err-null_space_by.ensures.wide)

pub returns-in-Some-clause-cols : goal.returns-in-Some-clause-cols
returns-in-Some-clause-cols c =
    ok_weaker c.turned_up.result _ _ (λ u t. only_length c.args.cols c.args.cuts.now c.deref.result.now c.in_ok-null_space_by.field-0.items c.in-Some.row c.in_ok-null_space_by.ensures.null c.in-Some.ensures u t) c.turned_up.ensures.turned

pub returns-in-Some-clause-failed : goal.returns-in-Some-clause-failed
returns-in-Some-clause-failed c =
    err_weaker c.turned_up.result _ _
    (λ f h lines b. sign_fail c.args.cols c.args.equations.now c.args.cuts.now c.args.set.now c.args.pivots.now lines b c.deref.result.now (c.deref.ensures.value ∙ c.in_ok-rows.ensures) c.in-Some.row c.in_ok-null_space_by.ensures.null.0 (rw c.in-Some.ensures at c.in_ok-null_space_by.ensures.null.1) f h)
    c.turned_up.ensures.failed
