-- The product of small numbers is in the range.
use Rattle.pm_vector.proofs.Differences.{small_in_range}
use Rattle.pm_vector.proofs.Kept.{kept}
use Rattle.pm_vector.proofs.exact.times.Goals as goal
use Rattle.std.proofs.Common.{refl, rules, ◌*ℤ◌, ◌≡◌}
use Rattle.std.proofs.lemmas.Int.{fits_signed_from_abs, to_z-of_z}
use Rattle.std.specs.Int.{w128}

pub overflow_mul-result : goal.overflow_mul-result
overflow_mul-result c =
    let a : c.from.result ≡ c.args.a = search rules in
    let b : c.from-then-is_small-2.result ≡ c.args.b = search rules in
    let small_a = rw (to_z-of_z w128 c.args.a c.ranges.a) at (c.is_small.ensures.0 c.if-is_small.true) in
    let small_b = rw (to_z-of_z w128 c.args.b c.ranges.b) at (c.is_small-then-is_small.ensures.0 c.if-is_small-2.true) in
    let within = small_in_range c.args.a c.args.b small_a small_b in
    rw (a, b, to_z-of_z w128 c.args.a c.ranges.a, to_z-of_z w128 c.args.b c.ranges.b) (fits_signed_from_abs w128 (c.args.a *ℤ c.args.b) within)

pub returns-then-is_small-2-clause-value : goal.returns-then-is_small-2-clause-value
returns-then-is_small-2-clause-value c =
    let a : c.from.result ≡ c.args.a = search rules in
    let b : c.from-then-is_small-2.result ≡ c.args.b = search rules in
    let small_a = rw (to_z-of_z w128 c.args.a c.ranges.a) at (c.is_small.ensures.0 c.if-is_small.true) in
    let small_b = rw (to_z-of_z w128 c.args.b c.ranges.b) at (c.is_small-then-is_small.ensures.0 c.if-is_small-2.true) in
    let within = small_in_range c.args.a c.args.b small_a small_b in
    rw (a, b, to_z-of_z w128 c.args.a c.ranges.a, to_z-of_z w128 c.args.b c.ranges.b, kept (c.args.a *ℤ c.args.b) within) refl

pub returns-then-is_small-2-clause-in_range : goal.returns-then-is_small-2-clause-in_range
returns-then-is_small-2-clause-in_range c =
    let a : c.from.result ≡ c.args.a = search rules in
    let b : c.from-then-is_small-2.result ≡ c.args.b = search rules in
    let small_a = rw (to_z-of_z w128 c.args.a c.ranges.a) at (c.is_small.ensures.0 c.if-is_small.true) in
    let small_b = rw (to_z-of_z w128 c.args.b c.ranges.b) at (c.is_small-then-is_small.ensures.0 c.if-is_small-2.true) in
    let within = small_in_range c.args.a c.args.b small_a small_b in
    rw (a, b, to_z-of_z w128 c.args.a c.ranges.a, to_z-of_z w128 c.args.b c.ranges.b, kept (c.args.a *ℤ c.args.b) within) within
