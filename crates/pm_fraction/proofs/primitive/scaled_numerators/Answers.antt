use Rattle.pm_fraction.proofs.Numerators.{NumeratorsSoFar-more, first_wide_numerator}
use Rattle.pm_fraction.proofs.primitive.scaled_numerators.Goals as goal
use Rattle.pm_vector.specs.Rows.{ratio_at}
use Rattle.pm_vector.proofs.Kept.{kept}
use Rattle.std.proofs.Common.{inr, pos, ◌≡◌}
use Rattle.std.proofs.lemmas.List.{get_or_read}
use Rattle.std.proofs.lemmas.Result.{err_from_is_err_and}

pub loop-i-preserved : goal.loop-i-preserved
loop-i-preserved c =
    let is : c.index-row-i.result ≡ ratio_at c.args.row.now c.loop-i.i = get_or_read c.args.row.now c.loop-i.i c.index-row-i.result c.loop-i-test.true c.index-row-i.is (record { num = pos 0; den = pos 1 }) in
    let value = rw is at c.in_ok-scaled_numerator.ensures.value in
    let small = c.in_ok-scaled_numerator.ensures.in_range in
    rw (c.in_ok-push.ensures.ok, kept c.in_ok-scaled_numerator.field-0 small)
    (NumeratorsSoFar-more c.args.row.now c.args.m c.loop-i.i c.loop-i.numerators c.in_ok-scaled_numerator.field-0 c.loop-i-test.true c.loop-i.invariant value small)

pub returns-in_err-scaled_numerator-clause-wide : goal.returns-in_err-scaled_numerator-clause-wide
returns-in_err-scaled_numerator-clause-wide c =
    let is : c.index-row-i.result ≡ ratio_at c.args.row.now c.loop-i.i = get_or_read c.args.row.now c.loop-i.i c.index-row-i.result c.loop-i-test.true c.index-row-i.is (record { num = pos 0; den = pos 1 }) in
    let p = err_from_is_err_and c.from_residual-in_err-scaled_numerator.result c.from_residual-in_err-scaled_numerator.ensures.1 in
    let wide = c.in_err-scaled_numerator.ensures.wide in
    rw (p.1, p.2, wide.0, is)
    (inr (first_wide_numerator c.args.row.now c.args.m c.loop-i.i c.loop-i-test.true c.requires.least c.requires.stays c.loop-i.invariant.stay (rw is at wide.1)))
