use Rattle.pm_dual.proofs.RowSums.{all_sum}
use Rattle.pm_dual.proofs.check.add_all.Goals as goal
use Rattle.std.proofs.Common.{arith, length, refl, ◌+◌, ◌≡◌}

pub returns-clause-sum : goal.returns-clause-sum
returns-clause-sum c e =
    let n : length c.args.multipliers.now ≡ length c.args.inequalities.now + length c.args.equations.now = c.requires.as_many in
    all_sum c.args.sum.now c.add_rows.new.sum c.add_rows-2.new.sum c.args.multipliers.now _ _ c.args.inequalities.now c.args.equations.now c.split_at.ensures.front c.split_at.ensures.back (omega arith) (c.if-not-add_rows.ensures.sum refl) (c.add_rows-2.ensures.sum e)
