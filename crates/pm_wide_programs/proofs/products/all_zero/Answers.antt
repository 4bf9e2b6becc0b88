use Rattle.pm_dual.proofs.RowSums.{all_places}
use Rattle.pm_vector.specs.Rows.{dot}
use Rattle.pm_wide_programs.proofs.products.all_zero.Goals as goal
use Rattle.pm_wide_programs.specs.Values.{values}
use Rattle.std.proofs.Common.{arith, pos, ◌≡◌}

pub returns : goal.returns
returns c e = all_places (λ b. dot b (values c.args.x.now) ≡ pos 0) c.args.rows.now (λ i li. c.loop-i.invariant i (omega arith))
