use Rattle.pm_elim.proofs.StepLaws.{cancels, p_positive}
use Rattle.pm_vector.specs.Steps.{IsFactors}
use Rattle.pm_elim.proofs.FactorLaws.{divisor_in_range, divisor_not_zero, quotients_are_factors}
use Rattle.pm_elim.proofs.factors.cancelling_factors.Goals as goal
use Rattle.pm_elim.proofs.factors.cancelling_factors.Goals.{After-gcd-divisor}
use Rattle.std.proofs.Common.{FitsSigned, arith, ◌<◌, ◌^◌}
use Rattle.std.proofs.lemmas.Int.{fits_signed_from_abs, ints, quot_fits, quot_is, to_z-of_z, to_z_pos}
use Rattle.std.specs.Int.{IsGcd, w128}
use Rattle.std.specs.Prelude.{int_div, pos, unsigned_abs, ◌<ℤ◌}

greatest : (c : After-gcd-divisor) → IsGcd (unsigned_abs c.args.x) (unsigned_abs c.args.y) c.gcd-divisor.result
greatest c = rw (c.unsigned_abs.ensures.value, c.unsigned_abs-2.ensures.value, to_z-of_z w128 c.args.x c.ranges.x, to_z-of_z w128 c.args.y c.ranges.y) at c.gcd-divisor.ensures

small : (c : After-gcd-divisor) → c.gcd-divisor.result < 2 ^ 127
small c = divisor_in_range c.args.x c.args.y c.gcd-divisor.result (greatest c) c.requires.positive c.requires.y_in_range

divisor_positive : (c : After-gcd-divisor) → pos 0 <ℤ pos c.gcd-divisor.result
divisor_positive c = let l = divisor_not_zero c.args.x c.args.y c.gcd-divisor.result (greatest c) c.requires.positive in omega (arith, ints)

divisor_fits : (c : After-gcd-divisor) → FitsSigned w128 (pos c.gcd-divisor.result)
divisor_fits c = fits_signed_from_abs w128 (pos c.gcd-divisor.result) (small c)

first_fits : (c : After-gcd-divisor) → FitsSigned w128 (int_div c.args.y (pos c.gcd-divisor.result))
first_fits c = quot_fits w128 c.args.y (pos c.gcd-divisor.result) c.ranges.y (divisor_positive c)

second_fits : (c : After-gcd-divisor) → FitsSigned w128 (int_div c.args.x (pos c.gcd-divisor.result))
second_fits c = quot_fits w128 c.args.x (pos c.gcd-divisor.result) c.ranges.x (divisor_positive c)

pub overflow_cast-divisor : goal.overflow_cast-divisor
overflow_cast-divisor c = divisor_fits c

pub nonzero_div-result : goal.nonzero_div-result
nonzero_div-result c = (divisor_not_zero c.args.x c.args.y c.gcd-divisor.result (greatest c) c.requires.positive, rw (to_z-of_z w128 c.args.y c.ranges.y, to_z_pos w128 c.gcd-divisor.result (small c)) (first_fits c))

pub nonzero_div-result-2 : goal.nonzero_div-result-2
nonzero_div-result-2 c = (divisor_not_zero c.args.x c.args.y c.gcd-divisor.result (greatest c) c.requires.positive, rw (to_z-of_z w128 c.args.x c.ranges.x, to_z_pos w128 c.gcd-divisor.result (small c)) (second_fits c))

factors : (c : After-gcd-divisor) → IsFactors c.args.x c.args.y (int_div c.args.y (pos c.gcd-divisor.result)) (int_div c.args.x (pos c.gcd-divisor.result))
factors c = quotients_are_factors c.args.x c.args.y c.gcd-divisor.result (greatest c) c.requires.positive

pub returns-clause-factors : goal.returns-clause-factors
returns-clause-factors c =
    rw (
      quot_is w128 c.args.y (pos c.gcd-divisor.result) c.ranges.y (divisor_fits c) (first_fits c),
      quot_is w128 c.args.x (pos c.gcd-divisor.result) c.ranges.x (divisor_fits c) (second_fits c),
    ) (factors c)

pub returns-clause-cancel : goal.returns-clause-cancel
returns-clause-cancel c =
    rw (
      quot_is w128 c.args.y (pos c.gcd-divisor.result) c.ranges.y (divisor_fits c) (first_fits c),
      quot_is w128 c.args.x (pos c.gcd-divisor.result) c.ranges.x (divisor_fits c) (second_fits c),
    ) (let e = cancels (factors c) in omega (arith, ints))

pub returns-clause-positive : goal.returns-clause-positive
returns-clause-positive c = rw (quot_is w128 c.args.y (pos c.gcd-divisor.result) c.ranges.y (divisor_fits c) (first_fits c)) (p_positive (factors c))
