use Rattle.std.proofs.Common.{refl}
use Rattle.pm_types.proofs.PrimitiveRows.{no_wide_row, rows_stay_primitive}
use Rattle.pm_object.proofs.tests_of_values.require_primitive_matrix.Goals as goal
use Rattle.pm_object.proofs.tests_of_values.require_primitive_matrix.Goals.{in-Ok, in-Err-Wide, in-Err-Memory}

pub returns-clause-ok : goal.returns-clause-ok
returns-clause-ok c = elim c.match-to_primitive_rows.branch [
  | in-Ok w ↦ rw w.result-is (rows_stay_primitive c.args.matrix.now.rows w.in-Ok.ensures.stays)
  | in-Err-Wide w ↦ rw w.result-is tt
  | in-Err-Memory w ↦ rw w.result-is tt
]

pub returns-clause-refused : goal.returns-clause-refused
returns-clause-refused c = elim c.match-to_primitive_rows.branch [
  | in-Ok w ↦ rw w.result-is tt
  | in-Err-Wide w ↦ rw w.result-is (λ _. (refl, λ h. let k = w.in-Err-Wide in no_wide_row c.args.matrix.now.rows k.field-0-0 k.field-0-1 k.field-0-2 h (rw k.field-0-is at k.ensures.wide)))
  | in-Err-Memory w ↦ rw w.result-is (λ other. absurd (other refl))
]
