use Rattle.pm_vector.proofs.RowLaws.{length-difference}
use Rattle.pm_dual.proofs.RowSums.{taken_times}
use Rattle.pm_dual.proofs.check.taken.Goals as goal
use Rattle.std.proofs.Common.{ap, length, refl, rules, ◌∙◌}
use Rattle.std.proofs.lemmas.Int.{to_z-of_z}
use mir.Syntax.{w128}

pub returns-in-Ok-clause-cols : goal.returns-in-Ok-clause-cols
returns-in-Ok-clause-cols c = ap length c.in-Ok.ensures.value ∙ length-difference (length c.args.row.now) _ c.in_ok-multiple.multiple _ c.args.row.now (ap length c.in_ok-multiple.ensures) refl

pub returns-in-Ok-clause-times : goal.returns-in-Ok-clause-times
returns-in-Ok-clause-times c = taken_times c.combine.new.v c.in_ok-multiple.multiple c.args.row.now _ _ c.args.number c.in-Ok.ensures.value c.in_ok-multiple.ensures refl (to_z-of_z w128 c.args.number (search rules))
