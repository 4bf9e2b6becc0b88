use Rattle.pm_vector.proofs.DivisorLaws.{IsGcdOf-more}
use Rattle.pm_vector.specs.Rows.{entry}
use Rattle.pm_vector.proofs.QuotientLaws.{IsGcdOf-one}
use Rattle.pm_vector.proofs.divisors.gcd_of.Goals as goal
use Rattle.std.proofs.Common.{FitsSigned, rules, ◌+◌}
use Rattle.std.proofs.lemmas.Int.{to_z-of_z}
use Rattle.std.specs.Int.{IsGcd, w128}
use Rattle.std.specs.Prelude.{unsigned_abs}

pub returns-then-divisor-eq1 : goal.returns-then-divisor-eq1
returns-then-divisor-eq1 c =
    let fits : FitsSigned w128 (entry c.args.row.now c.loop-i.i) = search rules in
    let both : IsGcd c.loop-i.divisor (unsigned_abs (entry c.args.row.now c.loop-i.i)) c.gcd-divisor.result = rw (c.unsigned_abs.ensures.value, to_z-of_z w128 (entry c.args.row.now c.loop-i.i) fits) at c.gcd-divisor.ensures in
    IsGcdOf-one c.args.row.now (c.loop-i.i + 1) (rw c.if-divisor-eq1.true at (IsGcdOf-more c.args.row.now c.loop-i.i c.loop-i.divisor c.gcd-divisor.result c.loop-i-test.true c.loop-i.invariant both))

pub loop-i-preserved : goal.loop-i-preserved
loop-i-preserved c =
    let fits : FitsSigned w128 (entry c.args.row.now c.loop-i.i) = search rules in
    let both : IsGcd c.loop-i.divisor (unsigned_abs (entry c.args.row.now c.loop-i.i)) c.gcd-divisor.result = rw (c.unsigned_abs.ensures.value, to_z-of_z w128 (entry c.args.row.now c.loop-i.i) fits) at c.gcd-divisor.ensures in
    IsGcdOf-more c.args.row.now c.loop-i.i c.loop-i.divisor c.gcd-divisor.result c.loop-i-test.true c.loop-i.invariant both
