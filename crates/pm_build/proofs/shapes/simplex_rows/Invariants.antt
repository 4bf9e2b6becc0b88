-- The rows of 0 and of the first i unit vectors.
use Rattle.pm_build.proofs.shapes.simplex_rows.Given as goal
use Rattle.pm_build.specs.Rows.{headed_rows, units}
use Rattle.std.proofs.Common.{suc, ◌≡◌, ◌∷◌}
use Rattle.std.specs.Prelude.{replicate}
use lib.IntN.{pos}

abbrev pub invariant-loop-i : goal.invariant-loop-i
invariant-loop-i l = record {
  rows : l.rows.rows ≡ headed_rows (replicate l.d (pos 0) ∷ units l.d l.i);
  cols : l.rows.cols ≡ suc l.d;
}
