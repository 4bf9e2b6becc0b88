use Rattle.pm_fraction.proofs.Denominators.{DenominatorSoFar-more, DenominatorSoFar-none, first_wide_denominator}
use Rattle.pm_fraction.proofs.primitive.common_denominator.Goals as goal
use Rattle.pm_vector.specs.Rows.{ratio_at}
use Rattle.std.proofs.Common.{inl, pos, ◌≡◌}
use Rattle.std.proofs.lemmas.List.{get_or_read}
use Rattle.std.proofs.lemmas.Result.{err_from_is_err_and}

pub loop-i-init : goal.loop-i-init
loop-i-init c = DenominatorSoFar-none c.args.row.now

pub returns-in_err-least-clause-wide : goal.returns-in_err-least-clause-wide
returns-in_err-least-clause-wide c =
    let p = err_from_is_err_and c.from_residual.result c.from_residual.ensures.1 in
    let w = c.in_err-least.ensures.wide in
    let is : c.index-row-i.result ≡ ratio_at c.args.row.now c.loop-i.i = get_or_read c.args.row.now c.loop-i.i c.index-row-i.result c.loop-i-test.true c.index-row-i.is (record { num = pos 0; den = pos 1 }) in
    let wide = rw is at w.1 in
    rw (p.1, p.2, w.0, is) (inl (first_wide_denominator c.args.row.now c.loop-i.i c.loop-i.least c.loop-i-test.true c.loop-i.invariant wide))

pub loop-i-preserved : goal.loop-i-preserved
loop-i-preserved c =
    let is : c.index-row-i.result ≡ ratio_at c.args.row.now c.loop-i.i = get_or_read c.args.row.now c.loop-i.i c.index-row-i.result c.loop-i-test.true c.index-row-i.is (record { num = pos 0; den = pos 1 }) in
    let value = rw is at c.in_ok-least.ensures.value in
    DenominatorSoFar-more c.args.row.now c.loop-i.i c.loop-i.least c.in_ok-least.least c.loop-i.invariant value c.in_ok-least.ensures.in_range (rw is at c.in_ok-least.ensures.reduced)
