use Rattle.pm_beneath.proofs.PlaceLost.{run_weaker}
use Rattle.pm_beneath.proofs.whole.all_fronts.Goals as goal
use Rattle.pm_dd.proofs.Answered.{generators_answered}
use Rattle.pm_dd.proofs.Arranged.{equation_cols, first_cols, first_few, first_free, first_length, front_spans_all, rank_of_taken, row_cols, start_lost}
use Rattle.pm_dd.proofs.Outcomes.{wide_weaker}
use Rattle.std.proofs.Common.{arith, inl, inr}
use Rattle.std.proofs.lemmas.List.Sorted.{length_permutation}
use Rattle.std.proofs.lemmas.Result.{err_from_is_err_and}

pub start_rays-requires-clause-cols : goal.start_rays-requires-clause-cols
start_rays-requires-clause-cols c = first_cols c.args.cols c.args.list.now c.args.equations.now c.args.rows.now c.args.start c.requires.columns c.requires.arranged

pub start_rays-requires-clause-few_rows : goal.start_rays-requires-clause-few_rows
start_rays-requires-clause-few_rows c = let w = c.requires.arranged.within in omega arith

pub start_rays-requires-clause-independent : goal.start_rays-requires-clause-independent
start_rays-requires-clause-independent c = first_free c.args.cols c.args.list.now c.args.equations.now c.args.rows.now c.args.start c.requires.columns c.requires.arranged

pub all_cells-requires-clause-equation_cols : goal.all_cells-requires-clause-equation_cols
all_cells-requires-clause-equation_cols c = equation_cols c.args.cols c.args.list.now c.args.equations.now c.args.rows.now c.args.start c.requires.columns c.requires.arranged

pub all_cells-requires-clause-row_cols : goal.all_cells-requires-clause-row_cols
all_cells-requires-clause-row_cols c = row_cols c.args.cols c.args.list.now c.args.equations.now c.args.rows.now c.args.start c.requires.columns c.requires.arranged

pub all_cells-requires-clause-spans : goal.all_cells-requires-clause-spans
all_cells-requires-clause-spans c = front_spans_all c.args.cols c.args.list.now c.args.equations.now c.args.rows.now c.args.start c.requires.columns c.requires.arranged

pub all_cells-requires-clause-rank : goal.all_cells-requires-clause-rank
all_cells-requires-clause-rank c = rank_of_taken c.args.cols c.args.list.now c.args.equations.now c.args.rows.now c.args.start c.requires.columns c.requires.arranged

pub hull_of-requires-clause-columns : goal.hull_of-requires-clause-columns
hull_of-requires-clause-columns c = rw (c.deref.ensures.value, c.in_ok-independent.ensures) (first_cols c.args.cols c.args.list.now c.args.equations.now c.args.rows.now c.args.start c.requires.columns c.requires.arranged)

pub hull_of-requires-clause-few_rows : goal.hull_of-requires-clause-few_rows
hull_of-requires-clause-few_rows c =
    let f = first_few c.args.cols c.args.list.now c.args.equations.now c.args.rows.now c.args.start c.requires.columns c.requires.arranged in
    let l = first_length c.args.cols c.args.list.now c.args.equations.now c.args.rows.now c.args.start c.requires.columns c.requires.arranged in
    rw (c.deref.ensures.value, c.in_ok-independent.ensures) (omega arith)

pub returns-clause-generators : goal.returns-clause-generators
returns-clause-generators c =
    let null = rw (c.deref.ensures.value, c.in_ok-independent.ensures) at c.in_ok-hull.ensures.null in
    generators_answered c.args.cols c.args.list.now c.args.equations.now c.args.rows.now c.args.start c.requires.columns c.requires.arranged c.in_ok-all.all.rays.rows.items c.sort.new.self.items c.in_ok-hull.hull.items null.0
    c.in_ok-all.ensures.order c.in_ok-all.ensures.reduced c.in_ok-sort.ensures.permutation c.in_ok-sort.ensures.sorted null.1

pub returns-clause-few_facets : goal.returns-clause-few_facets
returns-clause-few_facets c =
    let e = length_permutation c.in_ok-all.all.rays.rows.items c.sort.new.self.items c.in_ok-sort.ensures.permutation in
    let f = c.in_ok-all.ensures.few_rays in
    omega arith

pub returns-in_err-first-clause-lost : goal.returns-in_err-first-clause-lost
returns-in_err-first-clause-lost c = λ e.
    let p = err_from_is_err_and c.from_residual-in_err-first.result c.from_residual-in_err-first.ensures.1 in
    rw (p.1, p.2) (wide_weaker c.in_err-first.field-0.0 _ _ (λ h. inr (inl (start_lost c.args.cols c.args.list.now c.args.equations.now c.args.rows.now c.args.start c.requires.columns c.requires.arranged h))) (c.in_err-first.ensures.lost e))

pub returns-in_err-all-clause-lost : goal.returns-in_err-all-clause-lost
returns-in_err-all-clause-lost c = λ e.
    let p = err_from_is_err_and c.from_residual-in_err-all.result c.from_residual-in_err-all.ensures.1 in
    rw (p.1, p.2) (run_weaker c.in_err-all.field-0.0 _ _ (λ h. inr (inr (h c.args.list.now c.requires.columns c.requires.arranged))) (c.in_err-all.ensures.lost e))
