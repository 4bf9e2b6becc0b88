use Rattle.pm_dd.specs.Tables.{zero_set}
use Rattle.pm_incidence.proofs.zeros.full_marks.Given as goal
use Rattle.pm_incidence.specs.Thinning.{IsFull}
use Rattle.std.proofs.Common.{IsTrue, false, get_or, length, ℕ, ◌<◌, ◌≡◌}

abbrev pub invariant-loop-k : goal.invariant-loop-k
invariant-loop-k l = record {
  many : length l.marks.items ≡ l.k;
  full : (p : ℕ) → p < l.k → IsTrue (get_or l.marks.items p false) → IsFull (zero_set l.zeros.rows p);
  marked : (p : ℕ) → p < l.k → IsFull (zero_set l.zeros.rows p) → IsTrue (get_or l.marks.items p false);
}
