use Rattle.std.proofs.Common.{refl}
use Rattle.std.proofs.lemmas.Int.{fits_signed_from_abs, to_z-of_z}
use Rattle.std.specs.Int.{cast_signed, cast_unsigned, w128}
use Rattle.std.specs.Prelude.{unsigned_abs, ◌<◌, ◌^◌, ◌≡◌}
use Rattle.pm_fraction.proofs.Machine.{decoded, decoded_product, small_fits, small_in_range}
use Rattle.pm_fraction.proofs.whole.Whole.times.Goals as goal
use lib.IntN.{◌*ℤ◌}

a_is : (c : goal.Then-is_small-2) → cast_signed w128 (cast_unsigned w128 c.get-a.result) ≡ c.args.self
a_is c = decoded c.get-a.result c.args.self c.get-a.ensures.value c.get-a.ensures.in_range

b_is : (c : goal.Then-is_small-2) → cast_signed w128 (cast_unsigned w128 c.get-b.result) ≡ c.args.other
b_is c = decoded c.get-b.result c.args.other c.get-b.ensures.value c.get-b.ensures.in_range

small_a : (c : goal.Then-is_small-2) → unsigned_abs c.args.self < 2 ^ 63
small_a c = rw (a_is c) at (c.is_small.ensures.0 c.if-is_small.true)

small_b : (c : goal.Then-is_small-2) → unsigned_abs c.args.other < 2 ^ 63
small_b c = rw (b_is c) at (c.is_small-then-is_small.ensures.0 c.if-is_small-2.true)

pub overflow_mul-result : goal.overflow_mul-result
overflow_mul-result c = rw (a_is c, b_is c) (small_fits c.args.self c.args.other (small_a c) (small_b c))

pub invariant_of-result : goal.invariant_of-result
invariant_of-result c =
    let h = small_in_range c.args.self c.args.other (small_a c) (small_b c) in
    rw (decoded_product c.get-a.result c.get-b.result c.args.self c.args.other (a_is c) (b_is c) h) h

pub returns-then-is_small-2-clause-value : goal.returns-then-is_small-2-clause-value
returns-then-is_small-2-clause-value c =
    decoded_product c.get-a.result c.get-b.result c.args.self c.args.other (a_is c) (b_is c) (small_in_range c.args.self c.args.other (small_a c) (small_b c))

pub returns-then-is_small-2-clause-in_range : goal.returns-then-is_small-2-clause-in_range
returns-then-is_small-2-clause-in_range = invariant_of-result

pub returns-in-Some-clause-value : goal.returns-in-Some-clause-value
returns-in-Some-clause-value c =
    let a_is = decoded c.get-a.result c.args.self c.get-a.ensures.value c.get-a.ensures.in_range in
    let b_is = decoded c.get-b.result c.args.other c.get-b.ensures.value c.get-b.ensures.in_range in
    let found = rw (a_is, b_is) at c.in-Some.ensures in
    rw (found.1, to_z-of_z w128 (c.args.self *ℤ c.args.other) found.0) at c.new.ensures.value

pub returns-in-Some-clause-wide : goal.returns-in-Some-clause-wide
returns-in-Some-clause-wide c =
    let a_is = decoded c.get-a.result c.args.self c.get-a.ensures.value c.get-a.ensures.in_range in
    let b_is = decoded c.get-b.result c.args.other c.get-b.ensures.value c.get-b.ensures.in_range in
    let found = rw (a_is, b_is) at c.in-Some.ensures in
    rw (found.1, to_z-of_z w128 (c.args.self *ℤ c.args.other) found.0) at c.new.ensures.wide

pub returns-in-None-clause-wide : goal.returns-in-None-clause-wide
returns-in-None-clause-wide c =
    let a_is = decoded c.get-a.result c.args.self c.get-a.ensures.value c.get-a.ensures.in_range in
    let b_is = decoded c.get-b.result c.args.other c.get-b.ensures.value c.get-b.ensures.in_range in
    (refl, λ h. (rw (a_is, b_is) at c.in-None.ensures) (fits_signed_from_abs w128 (c.args.self *ℤ c.args.other) h))
