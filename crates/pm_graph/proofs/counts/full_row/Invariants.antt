use Rattle.pm_bits.specs.Sets.{has}
use Rattle.pm_graph.proofs.counts.full_row.Given as goal
use Rattle.std.proofs.Common.{length, ℕ, ◌<◌, ◌≡◌}
use Rattle.std.specs.Prelude.{IsTrue}

abbrev pub invariant-loop-j : goal.invariant-loop-j
invariant-loop-j l = record {
  len : length l.row ≡ l.len;
  members : (i : ℕ) → i < l.j → IsTrue (has l.row i);
}
