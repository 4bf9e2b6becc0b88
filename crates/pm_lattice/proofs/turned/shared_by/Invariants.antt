use Rattle.pm_bits.specs.Sets.{IsSubset, has}
use Rattle.pm_bits.specs.Table.{row_at}
use Rattle.pm_lattice.proofs.turned.shared_by.Given as goal
use Rattle.std.proofs.Common.{IsTrue, false, length, ℕ, ◌<◌, ◌≡◌, ◌≤◌, ◌↔◌}

abbrev pub invariant-loop-a : goal.invariant-loop-a
invariant-loop-a l = record {
  len : length l.face ≡ length l.columns.rows;
  below : (k : ℕ) → k < l.a → IsTrue (has l.face k) ↔ IsSubset l.set (row_at l.columns k);
  above : (k : ℕ) → l.a ≤ k → has l.face k ≡ false;
}
