use Rattle.pm_types.proofs.PrimitiveRows.{not_wide}
use Rattle.pm_wide_programs.proofs.WholeRows.{behind_one_stays, one, parted_times}
use Rattle.pm_wide_programs.proofs.objective.whole_objective.Goals as goal
use Rattle.std.proofs.Common.{◌∷◌}

pub returns-in-Ok-clause-times : goal.returns-in-Ok-clause-times
returns-in-Ok-clause-times c =
    parted_times c.args.objective.now c.in_ok-parted-in-Ok.field-0.times c.in_ok-parted-in-Ok.field-0.row (rw (c.deref.ensures.value, c.in_ok-longer.ensures, c.in_ok-parted-in-Ok.ensures) at c.in-Ok.ensures.multiple)

pub returns-in-Err-Wide-clause-none : goal.returns-in-Err-Wide-clause-none
returns-in-Err-Wide-clause-none c = λ h.
    not_wide (one ∷ c.args.objective.now) c.in-Err-Wide.field-0-0 c.in-Err-Wide.field-0-1 (behind_one_stays c.args.objective.now h) (rw (c.in-Err-Wide.field-0-is, c.deref.ensures.value, c.in_ok-longer.ensures) at c.in-Err-Wide.ensures.wide)
