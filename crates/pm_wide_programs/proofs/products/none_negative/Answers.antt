use Rattle.pm_dual.proofs.RowSums.{all_places}
use Rattle.pm_vector.specs.Rows.{dot}
use Rattle.pm_wide_programs.proofs.products.none_negative.Goals as goal
use Rattle.pm_wide_programs.specs.Values.{values}
use Rattle.std.proofs.Common.{arith, pos}
use lib.Signed.{◌≤ℤ◌}

pub returns : goal.returns
returns c e = all_places (λ a. pos 0 ≤ℤ dot a (values c.args.x.now)) c.args.rows.now (λ i li. c.loop-i.invariant i (omega arith))
