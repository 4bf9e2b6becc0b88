use Rattle.std.proofs.Common.{arith}
use Rattle.std.proofs.lemmas.Int.{fits_signed_from_abs, ints, to_z_pos}
use Rattle.std.specs.Int.{IsGcd, w128}
use Rattle.std.specs.Prelude.{unsigned_abs, ◌<◌, ◌^◌}
use Rattle.pm_fraction.proofs.Machine.{decoded, gcd_in_range, gcd_positive}
use Rattle.pm_fraction.proofs.whole.Whole.common.Goals as goal

gcd_is : (c : goal.After-gcd-divisor) → IsGcd (unsigned_abs c.args.self) (unsigned_abs c.args.other) c.gcd-divisor.result
gcd_is c =
    let a = rw (decoded c.get.result c.args.self c.get.ensures.value c.get.ensures.in_range) at c.unsigned_abs.ensures.value in
    let b = rw (decoded c.get-2.result c.args.other c.get-2.ensures.value c.get-2.ensures.in_range) at c.unsigned_abs-2.ensures.value in
    rw (← a, ← b) c.gcd-divisor.ensures

in_range : (c : goal.After-gcd-divisor) → c.gcd-divisor.result < 2 ^ 127
in_range c = gcd_in_range c.args.self c.args.other c.gcd-divisor.result c.requires c.get-2.ensures.in_range (gcd_is c)

pub overflow_cast-result : goal.overflow_cast-result
overflow_cast-result c = fits_signed_from_abs w128 _ (in_range c)

pub invariant_of-result : goal.invariant_of-result
invariant_of-result c = rw (to_z_pos w128 c.gcd-divisor.result (in_range c)) (in_range c)

pub returns-clause-gcd : goal.returns-clause-gcd
returns-clause-gcd c = rw (to_z_pos w128 c.gcd-divisor.result (in_range c)) (gcd_is c)

pub returns-clause-positive : goal.returns-clause-positive
returns-clause-positive c =
    let p = gcd_positive c.args.self c.args.other c.gcd-divisor.result c.requires (gcd_is c) in
    rw (to_z_pos w128 c.gcd-divisor.result (in_range c)) (omega (arith, ints))
