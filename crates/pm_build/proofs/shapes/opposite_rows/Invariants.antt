-- The rows of the first i places, in the column count of all.
use Rattle.pm_build.proofs.shapes.opposite_rows.Given as goal
use Rattle.pm_types.specs.Parts.{cols_over}
use Rattle.pm_build.specs.Rows.{headed_rows, opposite_units}
use Rattle.std.proofs.Common.{suc, ◌≡◌}

abbrev pub invariant-loop-i : goal.invariant-loop-i
invariant-loop-i l = record {
  rows : l.rows.rows ≡ headed_rows (opposite_units l.d l.i);
  cols : l.rows.cols ≡ cols_over (suc l.d) (headed_rows (opposite_units l.d l.d));
}
