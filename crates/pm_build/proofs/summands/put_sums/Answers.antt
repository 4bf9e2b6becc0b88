use Rattle.pm_build.proofs.SumLaws.{more_below, pairs_more, pairs_split, wide_later}
use Rattle.pm_build.proofs.summands.put_sums.Goals as goal
use Rattle.pm_build.specs.Points.{pairs, pairs_with}
use Rattle.std.proofs.Common.{ap, drop, take, ◌+◌, ◌∙◌}
use Rattle.std.proofs.lemmas.Result.{err_from_is_err_and}
use Rattle.std.specs.Prelude.{suc}

pub returns-in_err-put_sums_with-clause-wide : goal.returns-in_err-put_sums_with-clause-wide
returns-in_err-put_sums_with-clause-wide c =
    let q = err_from_is_err_and c.from_residual.result c.from_residual.ensures.1 in
    let V = c.args.points.now in
    let W = c.args.others.now in
    let i = c.loop-v.v-index in
    rw (q.1, q.2) (wide_later (pairs V W) (pairs (take i V) W) (pairs_with c.v-item.result W) (pairs (drop (suc i) V) W) c.in_err-put_sums_with.field-0.0 c.args.rows.now c.loop-v.rows
    (pairs_split V W i c.v-item.result c.loop-v-test.true c.v-item.is) c.loop-v.invariant.below c.in_err-put_sums_with.ensures.wide)

pub loop-v-preserved : goal.loop-v-preserved
loop-v-preserved c =
    let V = c.args.points.now in
    let W = c.args.others.now in
    let i = c.loop-v.v-index in
    record {
      below = more_below c.args.rows.now c.loop-v.rows c.put_sums_with.new.rows (pairs (take i V) W) (pairs_with c.v-item.result W) (pairs (take (i + 1) V) W) c.loop-v.invariant.below c.in_ok-put_sums_with.ensures.value (pairs_more V W i c.v-item.result c.loop-v-test.true c.v-item.is);
      cols = ap (λ m. m.cols) c.in_ok-put_sums_with.ensures.value.put ∙ c.loop-v.invariant.cols;
    }
