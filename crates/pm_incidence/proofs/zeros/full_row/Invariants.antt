use Rattle.pm_bits.specs.Sets.{has}
use Rattle.pm_incidence.proofs.zeros.full_row.Given as goal
use Rattle.std.proofs.Common.{IsTrue, length, ℕ, ◌<◌, ◌≡◌}

abbrev pub invariant-loop-j : goal.invariant-loop-j
invariant-loop-j l = record {
  len : length l.row ≡ l.len;
  set : (k : ℕ) → k < l.j → IsTrue (has l.row k);
}
