use Rattle.pm_fraction.proofs.MultipleLaws.{IsLcm-from_gcd, gcd_positive, lcm_is}
use Rattle.pm_fraction.proofs.Options.{IfNone-any}
use Rattle.pm_fraction.proofs.primitive.lcm.Goals as goal
use Rattle.std.proofs.Common.{arith}

pub nonzero_div-a : goal.nonzero_div-a
nonzero_div-a c = gcd_positive c.args.a c.args.b c.gcd-divisor.result c.requires c.gcd-divisor.ensures

pub returns-in_err-multiple-clause-none : goal.returns-in_err-multiple-clause-none
returns-in_err-multiple-clause-none c =
    IfNone-any c.from_residual.result _ (λ m h. let e = lcm_is c.args.a c.args.b c.gcd-divisor.result m c.requires c.gcd-divisor.ensures h in omega (arith, c.in_err-multiple.ensures))

pub returns-then-multiple-lt-RANGE_END-clause-some : goal.returns-then-multiple-lt-RANGE_END-clause-some
returns-then-multiple-lt-RANGE_END-clause-some c =
    let positive = gcd_positive c.args.a c.args.b c.gcd-divisor.result c.requires c.gcd-divisor.ensures in
    let w = c.in_ok-multiple.ensures in
    rw w.1 (IsLcm-from_gcd c.args.a c.args.b c.gcd-divisor.result positive c.gcd-divisor.ensures)

pub returns-else-multiple-lt-RANGE_END-clause-none : goal.returns-else-multiple-lt-RANGE_END-clause-none
returns-else-multiple-lt-RANGE_END-clause-none c = λ m h.
    let e = lcm_is c.args.a c.args.b c.gcd-divisor.result m c.requires c.gcd-divisor.ensures h in
    let w = c.in_ok-multiple.ensures in
    let v = w.1 in
    omega arith
