use Rattle.pm_vector.specs.Rows.{ratio_at}
use Rattle.pm_fraction.specs.Matrices.{IsFraction}
use Rattle.pm_simplex.proofs.start.start_row.Given as goal
use Rattle.pm_simplex.specs.Starts.{body_at}
use Rattle.std.proofs.Common.{length, ℕ, ◌<◌, ◌≡◌}

abbrev pub invariant-loop-k : goal.invariant-loop-k
invariant-loop-k l = record {
  count : length l.row.items ≡ l.k;
  entries : (k : ℕ) → k < l.k → ratio_at l.row.items k ≡ body_at l.y l.a l.b l.c l.i k;
  fractions : (k : ℕ) → k < l.k → IsFraction (ratio_at l.row.items k);
}
