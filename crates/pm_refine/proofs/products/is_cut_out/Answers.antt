use Rattle.pm_geom.proofs.Taken.{cut_more, listed, not_cut}
use Rattle.pm_refine.proofs.Outcomes.{row_of}
use Rattle.pm_refine.proofs.products.is_cut_out.Goals as goal
use Rattle.std.proofs.Common.{arith}
use Rattle.std.proofs.lemmas.Int.{ints}
use Rattle.std.proofs.lemmas.Result.{err_from_is_err_and}

pub returns-then-value-lt0-clause-inside : goal.returns-then-value-lt0-clause-inside
returns-then-value-lt0-clause-inside c =
    let low = c.if-value-lt0.true in
    not_cut c.args.rows.now c.args.ray.now c.loop-row.row-index c.row-item.result c.loop-row-test.true c.row-item.is c.in_ok-value.value c.in_ok-value.ensures.value (omega (arith, ints))

pub loop-row-preserved : goal.loop-row-preserved
loop-row-preserved c =
    let high = c.if-value-lt0.false in
    cut_more c.args.rows.now c.args.ray.now c.loop-row.row-index c.row-item.result c.loop-row-test.true c.row-item.is c.in_ok-value.value c.in_ok-value.ensures.value (omega (arith, ints)) c.loop-row.invariant

pub returns-in_err-value-clause-failed : goal.returns-in_err-value-clause-failed
returns-in_err-value-clause-failed c =
    let p = err_from_is_err_and c.from_residual.result c.from_residual.ensures.1 in
    rw (p.1, p.2) (row_of c.args.of.now.first c.args.of.now.second c.args.ray.now c.row-item.result c.args.rows.now c.in_err-value.field-0.0 (listed c.args.rows.now c.loop-row.row-index c.row-item.result c.loop-row-test.true c.row-item.is) c.in_err-value.ensures.failed)
