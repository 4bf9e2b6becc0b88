use Rattle.pm_vector.specs.Rows.{ratio_at}
use Rattle.pm_fraction.specs.Arithmetic.{opposite_of}
use Rattle.pm_optima.proofs.face.level_row.Given as goal
use Rattle.std.proofs.Common.{length, suc, ◌<◌, ◌≡◌, ℕ}

abbrev pub invariant-loop-i : goal.invariant-loop-i
invariant-loop-i l = record {
  count : length l.row.items ≡ l.i;
  first : ratio_at l.row.items 0 ≡ l.fn.first;
  others : (k : ℕ) → suc k < l.i → ratio_at l.row.items (suc k) ≡ opposite_of (ratio_at l.objective (suc k));
}
