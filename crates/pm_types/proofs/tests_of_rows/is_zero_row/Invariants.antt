use Rattle.std.proofs.Common.{◌≡◌, drop}
use Rattle.pm_types.specs.Forms.{is_zero_row}
use Rattle.pm_types.proofs.tests_of_rows.is_zero_row.Given as goal

abbrev pub invariant-loop-q : goal.invariant-loop-q
invariant-loop-q l = is_zero_row l.row ≡ is_zero_row (drop l.q-index l.row)
