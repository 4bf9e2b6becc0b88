use Rattle.pm_bits.specs.Sets.{has}
use Rattle.pm_bits.specs.Table.{row_at}
use Rattle.pm_lattice.proofs.turned.turned.Given as goal
use Rattle.std.proofs.Common.{length, ℕ, ◌<◌, ◌≡◌}

abbrev pub invariant-loop-a : goal.invariant-loop-a
invariant-loop-a l = record {
  row_len : l.columns.row_len ≡ length l.rows.rows;
  as_many : length l.columns.rows ≡ l.a;
  turned : (i k : ℕ) → k < l.a → has (row_at l.columns k) i ≡ has (row_at l.rows i) k;
}
