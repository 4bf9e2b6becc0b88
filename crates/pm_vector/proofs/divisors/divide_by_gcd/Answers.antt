use Rattle.pm_vector.proofs.DivisorLaws.{IsPrimitiveOf-quotients}
use Rattle.pm_vector.proofs.QuotientLaws.{All-quotients, IsPrimitiveOf-same, IsQuotient-quotients, IsQuotient-same, gcd_in_range, quotients_is}
use Rattle.pm_vector.proofs.divisors.divide_by_gcd.Goals as goal
use Rattle.std.proofs.Common.{arith, pos, ◌<ℤ◌}
use Rattle.std.proofs.lemmas.Int.{fits_signed_from_abs, ints, to_z_pos}
use Rattle.std.specs.Int.{w128}

pub overflow_cast-divisor : goal.overflow_cast-divisor
overflow_cast-divisor c = fits_signed_from_abs w128 (pos c.gcd_of-divisor.result) (gcd_in_range c.args.row.now c.gcd_of-divisor.result c.gcd_of-divisor.ensures c.requires)

pub divide-requires : goal.divide-requires
divide-requires c =
    let small = gcd_in_range c.args.row.now c.gcd_of-divisor.result c.gcd_of-divisor.ensures c.requires in
    let positive : pos 0 <ℤ pos c.gcd_of-divisor.result = omega (arith, ints) in
    rw (to_z_pos w128 c.gcd_of-divisor.result small) positive

pub returns-then-divisor-gt1-clause-primitive : goal.returns-then-divisor-gt1-clause-primitive
returns-then-divisor-gt1-clause-primitive c = rw (quotients_is c.args.row.now c.gcd_of-divisor.result c.gcd_of-divisor.ensures c.requires c.divide.new.row c.divide.ensures) (IsPrimitiveOf-quotients c.args.row.now c.gcd_of-divisor.result (omega arith) c.gcd_of-divisor.ensures)

pub returns-then-divisor-gt1-clause-quotient : goal.returns-then-divisor-gt1-clause-quotient
returns-then-divisor-gt1-clause-quotient c = rw (quotients_is c.args.row.now c.gcd_of-divisor.result c.gcd_of-divisor.ensures c.requires c.divide.new.row c.divide.ensures) (IsQuotient-quotients c.args.row.now c.gcd_of-divisor.result c.gcd_of-divisor.ensures)

pub returns-then-divisor-gt1-clause-in_range : goal.returns-then-divisor-gt1-clause-in_range
returns-then-divisor-gt1-clause-in_range c = rw (quotients_is c.args.row.now c.gcd_of-divisor.result c.gcd_of-divisor.ensures c.requires c.divide.new.row c.divide.ensures) (All-quotients c.args.row.now c.gcd_of-divisor.result c.gcd_of-divisor.ensures c.requires)

pub returns-else-divisor-gt1-clause-primitive : goal.returns-else-divisor-gt1-clause-primitive
returns-else-divisor-gt1-clause-primitive c = IsPrimitiveOf-same c.args.row.now c.gcd_of-divisor.result c.gcd_of-divisor.ensures (omega arith)

pub returns-else-divisor-gt1-clause-quotient : goal.returns-else-divisor-gt1-clause-quotient
returns-else-divisor-gt1-clause-quotient c = IsQuotient-same c.args.row.now c.gcd_of-divisor.result c.gcd_of-divisor.ensures (omega arith)
