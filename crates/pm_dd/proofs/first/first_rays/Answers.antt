use Rattle.pm_dd.proofs.Building.{places_more, start_table}
use Rattle.pm_dd.proofs.FormLaws.{start_reduced}
use Rattle.pm_dd.proofs.first.first_rays.Goals as goal
use Rattle.pm_dd.specs.Building.{AllBut}
use Rattle.pm_elim.specs.Duals.{IsDualBasis}
use Rattle.pm_geom.specs.Faces.{ray}
use Rattle.std.proofs.Common.{ap, arith, length, take, [], ◌++◌, ◌+◌, ◌<◌, ◌≡◌, ◌∙◌, ℕ}
use Rattle.std.proofs.lemmas.List.{get_or_read, length-append, length-take-le, length_push}
use Rattle.std.proofs.lemmas.Result.{err_from_is_err_and}

pub returns-in_err-duals-clause-dependent : goal.returns-in_err-duals-clause-dependent
returns-in_err-duals-clause-dependent c =
    let p = err_from_is_err_and c.from_residual.result c.from_residual.ensures.1 in
    rw (p.1, p.2) (rw c.requires.these at c.in_err-duals.ensures.dependent)

pub returns-in_err-duals-clause-lost : goal.returns-in_err-duals-clause-lost
returns-in_err-duals-clause-lost c = λ e.
    let p = err_from_is_err_and c.from_residual.result c.from_residual.ensures.1 in
    rw (p.1, p.2) (rw c.requires.these at (c.in_err-duals.ensures.lost e))

pub loop-k-preserved : goal.loop-k-preserved
loop-k-preserved c =
    let dual : IsDualBasis c.args.cols (c.args.equations.now ++ take c.args.start c.args.rows.now) c.in_ok-duals.duals.items = rw c.requires.these at c.in_ok-duals.ensures.dual in
    let a = dual.as_many in
    let b = length-append c.args.equations.now (take c.args.start c.args.rows.now) in
    let t = length-take-le c.args.start c.args.rows.now c.requires.within in
    let l : length c.args.equations.now + c.loop-k.k < length c.in_ok-duals.duals.items = omega arith in
    let here : c.in_ok-copy.field-0 ≡ ray c.in_ok-duals.duals.items (length c.args.equations.now + c.loop-k.k) = c.in_ok-copy.ensures ∙ get_or_read c.in_ok-duals.duals.items (length c.args.equations.now + c.loop-k.k) c.index.result.now l c.index.ensures [] in
    rw (c.in_ok-push.ensures.items, c.in-Ok.ensures.ok) (record {
      row_len = c.in-Ok.ensures.row_len ∙ c.loop-k.invariant.row_len;
      rows_many = length_push c.loop-k.made.items c.in_ok-copy.field-0 ∙ ap (λ (k : ℕ). k + 1) c.loop-k.invariant.rows_many;
      zeros_many = length_push c.loop-k.zeros.rows c.in_ok-all_but.field-0 ∙ ap (λ (k : ℕ). k + 1) c.loop-k.invariant.zeros_many;
      rows = places_more [] (λ i x. x ≡ ray c.in_ok-duals.duals.items (length c.args.equations.now + i)) c.loop-k.made.items c.in_ok-copy.field-0 c.loop-k.k c.loop-k.invariant.rows_many c.loop-k.invariant.rows here;
      sets = places_more [] (λ i z. AllBut (length c.args.rows.now) c.args.start i z) c.loop-k.zeros.rows c.in_ok-all_but.field-0 c.loop-k.k c.loop-k.invariant.zeros_many c.loop-k.invariant.sets c.in_ok-all_but.ensures;
    })

pub returns-clause-table : goal.returns-clause-table
returns-clause-table c =
    let dual : IsDualBasis c.args.cols (c.args.equations.now ++ take c.args.start c.args.rows.now) c.in_ok-duals.duals.items = rw c.requires.these at c.in_ok-duals.ensures.dual in
    let all : c.loop-k.k ≡ c.args.start = omega arith in
    start_table c.args.cols c.args.equations.now c.args.rows.now c.in_ok-duals.duals.items c.args.start c.loop-k.made.items c.loop-k.zeros.rows dual c.requires.cols c.requires.within (c.loop-k.invariant.rows_many ∙ all) (c.loop-k.invariant.zeros_many ∙ all)
    (λ k l. c.loop-k.invariant.rows k (omega arith)) (λ k l. c.loop-k.invariant.sets k (omega arith))

pub returns-clause-reduced : goal.returns-clause-reduced
returns-clause-reduced c =
    let dual : IsDualBasis c.args.cols (c.args.equations.now ++ take c.args.start c.args.rows.now) c.in_ok-duals.duals.items = rw c.requires.these at c.in_ok-duals.ensures.dual in
    let all : c.loop-k.k ≡ c.args.start = omega arith in
    start_reduced c.args.cols c.args.equations.now c.args.rows.now c.in_ok-duals.duals.items c.args.start c.loop-k.made.items dual c.requires.within (c.loop-k.invariant.rows_many ∙ all) (λ k l. c.loop-k.invariant.rows k (omega arith))
