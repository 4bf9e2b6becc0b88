use Rattle.pm_fraction.proofs.Numerators.{factor_fits, factor_is}
use Rattle.pm_fraction.proofs.primitive.scaled_numerator.Goals as goal
use Rattle.pm_vector.proofs.Kept.{kept}
use Rattle.std.proofs.Common.{refl}

pub overflow_cast-factor : goal.overflow_cast-factor
overflow_cast-factor c = factor_fits c.args.m c.unsigned_abs.result c.requires

pub returns-in-Ok : goal.returns-in-Ok
returns-in-Ok c =
    let factor = factor_is c.args.m c.args.f c.den.result c.unsigned_abs.result c.requires c.den.ensures.value c.den.ensures.in_range c.unsigned_abs.ensures.value in
    let num = kept c.args.f.num c.num-num.ensures.in_range in
    record {
      value = rw (kept c.in-Ok.product c.in-Ok.ensures.in_range, c.in-Ok.ensures.value, c.num-num.ensures.value, num, factor) refl;
      in_range = rw (kept c.in-Ok.product c.in-Ok.ensures.in_range) c.in-Ok.ensures.in_range;
      wide = tt;
    }

pub returns-in-Err-clause-wide : goal.returns-in-Err-clause-wide
returns-in-Err-clause-wide c =
    let factor = factor_is c.args.m c.args.f c.den.result c.unsigned_abs.result c.requires c.den.ensures.value c.den.ensures.in_range c.unsigned_abs.ensures.value in
    let num = kept c.args.f.num c.num-num.ensures.in_range in
    (rw (c.num-num.ensures.value, num, factor) refl, rw (c.num-num.ensures.value, num, factor) at c.in-Err.ensures.wide)
