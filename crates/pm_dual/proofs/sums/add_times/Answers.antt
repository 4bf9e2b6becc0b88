use Rattle.pm_vector.proofs.RowLaws.{length-difference}
use Rattle.pm_dual.proofs.RowSums.{opposite_read, row_added}
use Rattle.pm_dual.proofs.sums.add_times.Goals as goal
use Rattle.std.proofs.Common.{ap, length, pos, refl, rules, ◌∙◌}

pub returns-in-Ok-clause-cols : goal.returns-in-Ok-clause-cols
returns-in-Ok-clause-cols c = ap length c.in-Ok.ensures.value ∙ length-difference (length c.args.sum.now) (pos 1) c.args.sum.now _ c.args.row.now refl c.requires

pub returns-in-Ok-clause-sum : goal.returns-in-Ok-clause-sum
returns-in-Ok-clause-sum c e = row_added c.args.sum.now c.combine.new.v c.args.row.now c.args.t _ c.in-Ok.ensures.value (opposite_read c.args.t c.in-Some.opposite (search rules) c.in-Some.ensures)
