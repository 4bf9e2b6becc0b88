use Rattle.pm_bits.specs.Sets.{has}
use Rattle.pm_bits.specs.Table.{row_at}
use Rattle.pm_lattice.proofs.turned.column_of.Given as goal
use Rattle.std.proofs.Common.{false, length, ℕ, ◌<◌, ◌≡◌, ◌≤◌}

abbrev pub invariant-loop-i : goal.invariant-loop-i
invariant-loop-i l = record {
  len : length l.column ≡ length l.rows.rows;
  below : (k : ℕ) → k < l.i → has l.column k ≡ has (row_at l.rows k) l.a;
  above : (k : ℕ) → l.i ≤ k → has l.column k ≡ false;
}
