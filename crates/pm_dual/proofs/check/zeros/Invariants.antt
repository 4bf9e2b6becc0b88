use Rattle.pm_vector.specs.Rows.{entry}
use Rattle.pm_dual.proofs.check.zeros.Given as goal
use Rattle.std.proofs.Common.{length, pos, ℕ, ◌≡◌}

abbrev pub invariant-loop-i : goal.invariant-loop-i
invariant-loop-i l = record {
  count : length l.row ≡ l._i;
  zero : (k : ℕ) → entry l.row k ≡ pos 0;
}
