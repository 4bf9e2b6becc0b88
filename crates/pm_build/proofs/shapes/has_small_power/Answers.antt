use Rattle.pm_build.proofs.RowLaws.{power_leaves}
use Rattle.pm_build.proofs.shapes.has_small_power.Goals as goal
use Rattle.std.proofs.Common.{arith, ◌*◌, ◌≤◌}
use Rattle.std.proofs.lemmas.Grind.{common_steps}
use Rattle.std.specs.Prelude.{◌^◌}

pub returns-in_default : goal.returns-in_default
returns-in_default c =
    let above : 2 ^ 127 ≤ c.loop.power * c.args.n = grind (arith, common_steps) in
    power_leaves c.args.n c.args.d c.loop.counter c.loop.power (2 ^ 127) c.requires c.loop-test.true c.loop.invariant.power above

pub returns-in_default-2 : goal.returns-in_default-2
returns-in_default-2 c =
    let above : 2 ^ 127 ≤ c.loop.power * c.args.n = grind (arith, common_steps) in
    power_leaves c.args.n c.args.d c.loop.counter c.loop.power (2 ^ 127) c.requires c.loop-test.true c.loop.invariant.power above
