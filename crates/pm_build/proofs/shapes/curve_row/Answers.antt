use Rattle.pm_build.proofs.RowLaws.{power_next}
use Rattle.pm_build.proofs.shapes.curve_row.Goals as goal
use Rattle.std.proofs.Common.{arith}
use Rattle.std.specs.Prelude.{◌^◌}

pub overflow_mul-power : goal.overflow_mul-power
overflow_mul-power c =
    let next = power_next c.args.t c.args.d c.loop.counter c.loop.power (2 ^ 127) c.requires.some c.loop-test.true c.loop.invariant.power c.requires.small in
    let below = next.1 in
    omega arith

pub small_fraction-requires : goal.small_fraction-requires
small_fraction-requires c = (power_next c.args.t c.args.d c.loop.counter c.loop.power (2 ^ 127) c.requires.some c.loop-test.true c.loop.invariant.power c.requires.small).1
