use Rattle.pm_build.proofs.SumLaws.{more_below, one_below, wide_with, with_more, with_split}
use Rattle.pm_build.proofs.summands.put_sums_with.Goals as goal
use Rattle.pm_build.specs.Points.{pairs_with}
use Rattle.std.proofs.Common.{[], ap, drop, take, ◌+◌, ◌∷◌, ◌∙◌}
use Rattle.std.proofs.lemmas.Result.{err_from_is_err_and}
use Rattle.std.specs.Prelude.{suc}

pub returns-in_err-sum_row-clause-wide : goal.returns-in_err-sum_row-clause-wide
returns-in_err-sum_row-clause-wide c =
    let q = err_from_is_err_and c.from_residual.result c.from_residual.ensures.1 in
    let v = c.args.v.now in
    let W = c.args.others.now in
    let i = c.loop-w.w-index in
    rw (q.1, q.2) (wide_with (pairs_with v W) (pairs_with v (take i W)) (pairs_with v (drop (suc i) W)) v c.w-item.result c.in_err-sum_row.field-0.0 c.args.rows.now c.loop-w.rows
    (with_split v W i c.w-item.result c.loop-w-test.true c.w-item.is) c.loop-w.invariant.below c.in_err-sum_row.ensures.wide)

pub loop-w-preserved : goal.loop-w-preserved
loop-w-preserved c =
    let v = c.args.v.now in
    let W = c.args.others.now in
    let i = c.loop-w.w-index in
    let put = rw c.deref.ensures.value at c.in_ok-put_row.ensures in
    record {
      below = more_below c.args.rows.now c.loop-w.rows c.put_row.new.matrix (pairs_with v (take i W)) ((v, c.w-item.result) ∷ []) (pairs_with v (take (i + 1) W)) c.loop-w.invariant.below
          (one_below c.loop-w.rows c.put_row.new.matrix v c.w-item.result c.in_ok-sum_row.field-0.items c.in_ok-sum_row.ensures.value put) (with_more v W i c.w-item.result c.loop-w-test.true c.w-item.is);
      cols = ap (λ m. m.cols) put ∙ c.loop-w.invariant.cols;
    }
