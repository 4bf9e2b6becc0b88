use Rattle.pm_build.proofs.RowLaws.{length_curve, length_headed, power_below}
use Rattle.pm_build.proofs.shapes.curve_rows.Goals as goal
use Rattle.pm_build.specs.Rows.{curve}
use Rattle.std.proofs.Common.{arith, ◌+◌}
use Rattle.std.specs.Prelude.{◌^◌}

pub curve_row-requires-clause-small : goal.curve_row-requires-clause-small
curve_row-requires-clause-small c = power_below (c.loop-i.i + 1) c.args.n c.args.d (2 ^ 127) (let l = c.loop-i-test.true in omega arith) c.requires.small

pub put_row-requires : goal.put_row-requires
put_row-requires c =
    rw (c.deref.ensures.value, c.in_ok-curve_row.ensures, c.loop-i.invariant.cols) (length_headed (curve (c.loop-i.i + 1) c.args.d) c.args.d (length_curve (c.loop-i.i + 1) c.args.d))
