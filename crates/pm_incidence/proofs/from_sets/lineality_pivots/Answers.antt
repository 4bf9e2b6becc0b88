use Rattle.pm_incidence.proofs.SetRows.{first_fail, first_lost, pivots_of}
use Rattle.pm_incidence.proofs.from_sets.lineality_pivots.Goals as goal
use Rattle.pm_incidence.proofs.from_sets.lineality_pivots.Goals.{After-deref}
use Rattle.pm_vector.proofs.Lists.{all_append}
use Rattle.std.proofs.Common.{ap, arith, length, ◌+◌, ◌++◌, ◌∙◌, ◌≡◌}
use Rattle.std.proofs.lemmas.List.{length-append, take_all}
use Rattle.std.proofs.lemmas.Result.{err_from_is_err_and}

-- the rows are the equations, and then the inequalities
joined : (c : After-deref) → c.deref.result.now ≡ c.args.equations.now ++ c.args.cuts.now
joined c = c.deref.ensures.value ∙ rw (take_all c.loop-cut.cut-index c.args.cuts.now c.loop-cut-test.false) at c.loop-cut.invariant

pub null_space_by-requires-clause-columns : goal.null_space_by-requires-clause-columns
null_space_by-requires-clause-columns c = rw (joined c) (all_append (λ x. length x ≡ c.args.cols) c.args.equations.now c.args.cuts.now c.requires.equation_cols c.requires.cut_cols)

pub null_space_by-requires-clause-few_rows : goal.null_space_by-requires-clause-few_rows
null_space_by-requires-clause-few_rows c =
    let e : length c.deref.result.now ≡ length c.args.equations.now + length c.args.cuts.now = ap length (joined c) ∙ length-append c.args.equations.now c.args.cuts.now in
    let a = c.requires.few_equations in
    let b = c.requires.few_cuts in
    omega arith

pub returns-in_err-lines-clause-failed : goal.returns-in_err-lines-clause-failed
returns-in_err-lines-clause-failed c =
    let p = err_from_is_err_and c.from_residual-in_err-lines.result c.from_residual-in_err-lines.ensures.1 in
    let is = joined (goal.at.returns-in_err-lines-clause-failed c).After-deref in
    rw (p.1, p.2) (λ sets. first_fail c.args.cols c.args.equations.now c.args.cuts.now sets c.deref.result.now is c.in_err-lines.field-0.0 c.in_err-lines.ensures.wide)

pub returns-in_err-lines-clause-lost : goal.returns-in_err-lines-clause-lost
returns-in_err-lines-clause-lost c = λ wide.
    let p = err_from_is_err_and c.from_residual-in_err-lines.result c.from_residual-in_err-lines.ensures.1 in
    let is = joined (goal.at.returns-in_err-lines-clause-lost c).After-deref in
    rw (p.1, p.2) (first_lost c.args.cols c.deref.result.now (c.args.equations.now ++ c.args.cuts.now) is c.in_err-lines.field-0.0 (c.in_err-lines.ensures.lost wide))

pub returns-clause-pivots : goal.returns-clause-pivots
returns-clause-pivots c =
    pivots_of c.args.cols c.deref.result.now (c.args.equations.now ++ c.args.cuts.now) c.in_ok-lines.lines.items c.in_ok-pivot_columns.field-0.items (joined (goal.at.returns-clause-pivots c).After-deref) c.in_ok-lines.ensures.null (rw c.deref-2.ensures.value at c.in_ok-pivot_columns.ensures)
