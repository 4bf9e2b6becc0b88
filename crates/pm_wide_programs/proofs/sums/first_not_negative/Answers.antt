use Rattle.pm_vector.specs.Rows.{entry}
use Rattle.pm_wide_programs.proofs.ValueRows.{read_up}
use Rattle.pm_wide_programs.proofs.sums.first_not_negative.Goals as goal
use Rattle.pm_wide_programs.specs.Values.{values}
use Rattle.std.proofs.Common.{arith, below_more, length, pos, ◌<◌}
use lib.Signed.{◌≤ℤ◌}

pub loop-i-preserved : goal.loop-i-preserved
loop-i-preserved c =
    let within : c.loop-i.i < length c.args.numbers.now = omega arith in
    below_more (λ k. pos 0 ≤ℤ entry (values c.args.numbers.now) k) c.loop-i.i c.loop-i.invariant (read_up c.args.numbers.now c.loop-i.i _ within c.if-is_negative.ensures.1)
