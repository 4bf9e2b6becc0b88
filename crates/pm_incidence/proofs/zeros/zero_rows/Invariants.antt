use Rattle.pm_vector.specs.Bases.{row_at}
use Rattle.pm_dd.specs.Tables.{IsZeroSet, zero_set}
use Rattle.pm_incidence.proofs.zeros.zero_rows.Given as goal
use Rattle.std.proofs.Common.{length, ℕ, ◌<◌, ◌≡◌}

abbrev pub invariant-loop-row : goal.invariant-loop-row
invariant-loop-row l = record {
  len : l.zeros.row_len ≡ length l.cuts;
  many : length l.zeros.rows ≡ l.row-index;
  each : (k : ℕ) → k < l.row-index → IsZeroSet l.cuts (length l.cuts) (row_at l.rows k) (zero_set l.zeros.rows k);
}
