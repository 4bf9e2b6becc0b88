use Rattle.pm_vector.specs.Magnitudes.{magnitude_of}
use Rattle.pm_vector.specs.WideInts.{value_of}
use Rattle.pm_wide_programs.proofs.WholeQuotients.{lowest_divided}
use Rattle.pm_wide_programs.proofs.fractions.quotient.Goals as goal
use Rattle.std.proofs.Common.{arith, pos, refl, rules, subst, ◌<◌, ◌∙◌}
use Rattle.std.proofs.Math.Nat.{pos_of_dvd_of_pos}
use Rattle.std.proofs.lemmas.Int.{ints, to_z-of_z}
use Rattle.std.specs.Int.{◌∣◌}
use lib.Signed.{◌<ℤ◌}
use mir.Syntax.{w128}

pub divided_by-requires-clause-positive : goal.divided_by-requires-clause-positive
divided_by-requires-clause-positive c =
    let up : pos 0 <ℤ value_of c.args.d = c.if-not-is_positive.ensures.0 refl in
    let same = c.size_of.ensures in
    let size : 0 < magnitude_of c.size_of.result = omega (arith, ints) in
    pos_of_dvd_of_pos c.gcd_with-common.ensures.0 size

pub divided_by-requires-clause-divisor : goal.divided_by-requires-clause-divisor
divided_by-requires-clause-divisor c = c.gcd_with-common.ensures.1

pub divided_by-requires-2-clause-positive : goal.divided_by-requires-2-clause-positive
divided_by-requires-2-clause-positive c =
    let up : pos 0 <ℤ value_of c.args.d = c.if-not-is_positive.ensures.0 refl in
    let same = c.size_of.ensures in
    let size : 0 < magnitude_of c.size_of.result = omega (arith, ints) in
    pos_of_dvd_of_pos c.gcd_with-common.ensures.0 size

pub divided_by-requires-2-clause-divisor : goal.divided_by-requires-2-clause-divisor
divided_by-requires-2-clause-divisor c = subst (λ k. magnitude_of c.gcd_with-common.result ∣ k) c.size_of.ensures c.gcd_with-common.ensures.0

pub returns-in-Ok-clause-lowest : goal.returns-in-Ok-clause-lowest
returns-in-Ok-clause-lowest c =
    lowest_divided (magnitude_of c.gcd_with-common.result) (value_of c.args.n) (value_of c.args.d) (value_of c.divided_by.result) (value_of c.divided_by-2.result) _ _ c.in-Ok.f c.divided_by.ensures c.divided_by-2.ensures
    (to_z-of_z w128 c.in_ok-num.num (search rules) ∙ c.in_ok-num.ensures.1) (to_z-of_z w128 c.in_ok-den.den (search rules) ∙ c.in_ok-den.ensures.1) (c.if-not-is_positive.ensures.0 refl) c.in-Ok.ensures.ok
