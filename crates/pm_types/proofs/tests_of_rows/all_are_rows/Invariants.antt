use Rattle.std.proofs.Common.{◌≡◌, drop}
use Rattle.std.specs.List.{list_all}
use Rattle.pm_types.specs.Forms.{is_row}
use Rattle.pm_types.proofs.tests_of_rows.all_are_rows.Given as goal

abbrev pub invariant-loop-i : goal.invariant-loop-i
invariant-loop-i l = list_all (is_row l.of l.p) l.matrix.rows ≡ list_all (is_row l.of l.p) (drop l.i l.matrix.rows)
