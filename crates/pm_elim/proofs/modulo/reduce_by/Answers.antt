use Rattle.pm_elim.proofs.PrefixLaws.{at_most_columns, fail_is_evidence, never_at_end, small_reduction}
use Rattle.pm_elim.proofs.ReductionLaws.{reduced_modulo, reduced_zero}
use Rattle.pm_elim.proofs.modulo.reduce_by.Goals as goal
use Rattle.std.proofs.Common.{arith, length, refl}

pub reduction_fail-requires-clause-few_rows : goal.reduction_fail-requires-clause-few_rows
reduction_fail-requires-clause-few_rows c =
    let few = at_most_columns (length c.args.row.now) c.args.rows.now c.args.pivots.now c.requires.is_basis in
    omega arith

pub reduction_fail-requires-clause-small_step : goal.reduction_fail-requires-clause-small_step
reduction_fail-requires-clause-small_step c = small_reduction (length c.args.row.now) c.args.rows.now c.args.pivots.now c.requires.is_basis c.args.row.now c.in-Err.refusal (omega arith) c.in-Err.ensures.wide c.in-Err.ensures.within

pub returns-in-Ok-clause-zero : goal.returns-in-Ok-clause-zero
returns-in-Ok-clause-zero c = reduced_zero c.args.rows.now c.args.pivots.now c.args.row.now c.in-Ok.rest c.requires.is_basis.reduced c.in-Ok.ensures.reduced

pub returns-in-Ok-clause-direction : goal.returns-in-Ok-clause-direction
returns-in-Ok-clause-direction c = reduced_modulo c.args.rows.now c.args.pivots.now c.args.row.now c.in-Ok.rest c.in-Ok.ensures.reduced

pub returns-in-Ok-clause-never_wide : goal.returns-in-Ok-clause-never_wide
returns-in-Ok-clause-never_wide c = never_at_end (length c.args.row.now) c.args.rows.now c.args.pivots.now c.requires.is_basis c.args.row.now c.in-Ok.ensures.stays

pub returns-in-Err-clause-wide : goal.returns-in-Err-clause-wide
returns-in-Err-clause-wide c = fail_is_evidence (length c.args.row.now) c.args.rows.now c.args.pivots.now c.requires.is_basis c.args.row.now c.in-Err.refusal c.reduction_fail.result c.in-Err.ensures.wide c.reduction_fail.ensures

pub returns-in-Err-clause-unchanged : goal.returns-in-Err-clause-unchanged
returns-in-Err-clause-unchanged c = refl
