use Rattle.pm_dd.proofs.Answered.{generators_answered}
use Rattle.pm_dd.proofs.Arranged.{equation_cols, first_cols, first_few, first_free, first_length, front_spans_all, rank_of_taken, row_cols, start_lost}
use Rattle.pm_dd.proofs.Outcomes.{wide_weaker}
use Rattle.pm_dd.proofs.extreme.rays_within.Goals as goal
use Rattle.std.proofs.Common.{arith, inl, inr}
use Rattle.std.proofs.lemmas.Result.{err_from_is_err_and}

pub start_rays-requires-clause-cols : goal.start_rays-requires-clause-cols
start_rays-requires-clause-cols c = rw (c.deref-4.ensures.value, c.deref-5.ensures.value) (first_cols c.args.cols c.args.rows.now c.in_ok-order.order.equations.items c.in_ok-order.order.rows.items c.in_ok-order.order.start c.requires.columns c.in_ok-order.ensures.arranged)

pub start_rays-requires-clause-few_rows : goal.start_rays-requires-clause-few_rows
start_rays-requires-clause-few_rows c = let w = c.in_ok-order.ensures.arranged.within in let f = c.in_ok-order.ensures.few_rows in omega arith

pub start_rays-requires-clause-independent : goal.start_rays-requires-clause-independent
start_rays-requires-clause-independent c = rw (c.deref-4.ensures.value, c.deref-5.ensures.value) (first_free c.args.cols c.args.rows.now c.in_ok-order.order.equations.items c.in_ok-order.order.rows.items c.in_ok-order.order.start c.requires.columns c.in_ok-order.ensures.arranged)

pub all_rays-requires-clause-equation_cols : goal.all_rays-requires-clause-equation_cols
all_rays-requires-clause-equation_cols c = rw (c.deref-7.ensures.value) (equation_cols c.args.cols c.args.rows.now c.in_ok-order.order.equations.items c.in_ok-order.order.rows.items c.in_ok-order.order.start c.requires.columns c.in_ok-order.ensures.arranged)

pub all_rays-requires-clause-row_cols : goal.all_rays-requires-clause-row_cols
all_rays-requires-clause-row_cols c = rw (c.deref-8.ensures.value) (row_cols c.args.cols c.args.rows.now c.in_ok-order.order.equations.items c.in_ok-order.order.rows.items c.in_ok-order.order.start c.requires.columns c.in_ok-order.ensures.arranged)

pub all_rays-requires-clause-spans : goal.all_rays-requires-clause-spans
all_rays-requires-clause-spans c = rw (c.deref-7.ensures.value, c.deref-8.ensures.value) (front_spans_all c.args.cols c.args.rows.now c.in_ok-order.order.equations.items c.in_ok-order.order.rows.items c.in_ok-order.order.start c.requires.columns c.in_ok-order.ensures.arranged)

pub all_rays-requires-clause-rank : goal.all_rays-requires-clause-rank
all_rays-requires-clause-rank c = rw (c.deref-7.ensures.value, c.deref-8.ensures.value) (rank_of_taken c.args.cols c.args.rows.now c.in_ok-order.order.equations.items c.in_ok-order.order.rows.items c.in_ok-order.order.start c.requires.columns c.in_ok-order.ensures.arranged)

pub lineality_of-requires-clause-columns : goal.lineality_of-requires-clause-columns
lineality_of-requires-clause-columns c = rw (c.deref-3.ensures.value, c.in_ok-independent.ensures, c.deref.ensures.value, c.deref-2.ensures.value) (first_cols c.args.cols c.args.rows.now c.in_ok-order.order.equations.items c.in_ok-order.order.rows.items c.in_ok-order.order.start c.requires.columns c.in_ok-order.ensures.arranged)

pub lineality_of-requires-clause-independent : goal.lineality_of-requires-clause-independent
lineality_of-requires-clause-independent c = rw (c.deref-3.ensures.value, c.in_ok-independent.ensures, c.deref.ensures.value, c.deref-2.ensures.value) (first_free c.args.cols c.args.rows.now c.in_ok-order.order.equations.items c.in_ok-order.order.rows.items c.in_ok-order.order.start c.requires.columns c.in_ok-order.ensures.arranged)

pub lineality_of-requires-clause-few_rows : goal.lineality_of-requires-clause-few_rows
lineality_of-requires-clause-few_rows c =
    let f = first_few c.args.cols c.args.rows.now c.in_ok-order.order.equations.items c.in_ok-order.order.rows.items c.in_ok-order.order.start c.requires.columns c.in_ok-order.ensures.arranged in
    let l = first_length c.args.cols c.args.rows.now c.in_ok-order.order.equations.items c.in_ok-order.order.rows.items c.in_ok-order.order.start c.requires.columns c.in_ok-order.ensures.arranged in
    rw (c.deref-3.ensures.value, c.in_ok-independent.ensures, c.deref.ensures.value, c.deref-2.ensures.value) (omega arith)

pub returns-clause-generators : goal.returns-clause-generators
returns-clause-generators c =
    let null = rw (c.deref-3.ensures.value, c.in_ok-independent.ensures, c.deref.ensures.value, c.deref-2.ensures.value) at c.in_ok-lineality.ensures.null in
    generators_answered c.args.cols c.args.rows.now c.in_ok-order.order.equations.items c.in_ok-order.order.rows.items c.in_ok-order.order.start c.requires.columns c.in_ok-order.ensures.arranged c.in-Some.all.rows.items c.sort.new.self.items c.in_ok-lineality.lineality.items null.0
    (rw (c.in-Some.is, c.deref-7.ensures.value, c.deref-8.ensures.value) at c.in_ok-all.ensures.order) (rw (c.in-Some.is, c.deref-7.ensures.value, c.deref-8.ensures.value) at c.in_ok-all.ensures.reduced) c.in_ok-sort.ensures.permutation c.in_ok-sort.ensures.sorted null.1

pub returns-in_err-order-clause-lost : goal.returns-in_err-order-clause-lost
returns-in_err-order-clause-lost c = λ e.
    let p = err_from_is_err_and c.from_residual.result c.from_residual.ensures.1 in
    rw (p.1, p.2) (wide_weaker c.in_err-order.field-0.0 _ _ (λ h. inl h) (c.in_err-order.ensures.lost e))

pub returns-in_err-lineality-clause-lost : goal.returns-in_err-lineality-clause-lost
returns-in_err-lineality-clause-lost c = λ e.
    let p = err_from_is_err_and c.from_residual-in_err-lineality.result c.from_residual-in_err-lineality.ensures.1 in
    let null = rw (c.deref-3.ensures.value, c.in_ok-independent.ensures, c.deref.ensures.value, c.deref-2.ensures.value) at (c.in_err-lineality.ensures.lost e) in
    rw (p.1, p.2) (wide_weaker c.in_err-lineality.field-0.0 _ _ (λ h. inr (inl (start_lost c.args.cols c.args.rows.now c.in_ok-order.order.equations.items c.in_ok-order.order.rows.items c.in_ok-order.order.start c.requires.columns c.in_ok-order.ensures.arranged (inl h)))) null)

pub returns-in_err-first-clause-lost : goal.returns-in_err-first-clause-lost
returns-in_err-first-clause-lost c = λ e.
    let p = err_from_is_err_and c.from_residual-in_err-first.result c.from_residual-in_err-first.ensures.1 in
    let duals = rw (c.deref-4.ensures.value, c.deref-5.ensures.value) at (c.in_err-first.ensures.lost e) in
    rw (p.1, p.2) (wide_weaker c.in_err-first.field-0.0 _ _ (λ h. inr (inl (start_lost c.args.cols c.args.rows.now c.in_ok-order.order.equations.items c.in_ok-order.order.rows.items c.in_ok-order.order.start c.requires.columns c.in_ok-order.ensures.arranged h))) duals)

pub returns-in_err-all-clause-lost : goal.returns-in_err-all-clause-lost
returns-in_err-all-clause-lost c = λ e.
    let p = err_from_is_err_and c.from_residual-in_err-all.result c.from_residual-in_err-all.ensures.1 in
    let steps = rw (c.deref-7.ensures.value, c.deref-8.ensures.value) at (c.in_err-all.ensures.lost e) in
    rw (p.1, p.2) (wide_weaker c.in_err-all.field-0.0 _ _ (λ h. inr (inr (h c.args.rows.now c.requires.columns c.in_ok-order.ensures.arranged))) steps)

pub returns-in_err-order-clause-shown : goal.returns-in_err-order-clause-shown
returns-in_err-order-clause-shown c =
    let p = err_from_is_err_and c.from_residual.result c.from_residual.ensures.1 in
    rw (p.1, p.2) c.in_err-order.ensures.shown

pub returns-in_err-first-clause-shown : goal.returns-in_err-first-clause-shown
returns-in_err-first-clause-shown c =
    let p = err_from_is_err_and c.from_residual-in_err-first.result c.from_residual-in_err-first.ensures.1 in
    let shown = rw (c.deref-4.ensures.value, c.deref-5.ensures.value) at c.in_err-first.ensures.shown in
    rw (p.1, p.2) (shown c.args.rows.now c.requires.columns c.in_ok-order.ensures.arranged)

pub returns-in_err-all-clause-shown : goal.returns-in_err-all-clause-shown
returns-in_err-all-clause-shown c =
    let p = err_from_is_err_and c.from_residual-in_err-all.result c.from_residual-in_err-all.ensures.1 in
    let shown = rw (c.deref-7.ensures.value, c.deref-8.ensures.value) at c.in_err-all.ensures.shown in
    rw (p.1, p.2) (shown c.args.rows.now c.requires.columns c.in_ok-order.ensures.arranged)

pub all_rays-requires-clause-table : goal.all_rays-requires-clause-table
all_rays-requires-clause-table c = rw (c.deref-7.ensures.value, c.deref-8.ensures.value) (rw (c.deref-4.ensures.value, c.deref-5.ensures.value) at c.in_ok-first.ensures.table)

pub all_rays-requires-clause-reduced : goal.all_rays-requires-clause-reduced
all_rays-requires-clause-reduced c = rw (c.deref-7.ensures.value, c.deref-8.ensures.value) (rw (c.deref-4.ensures.value, c.deref-5.ensures.value) at c.in_ok-first.ensures.reduced)
