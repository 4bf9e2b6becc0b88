use Rattle.pm_bits.specs.Sets.{IsSubset}
use Rattle.pm_dd.specs.Tables.{zero_set}
use Rattle.pm_incidence.proofs.zeros.is_kept.Given as goal
use Rattle.std.proofs.Common.{IsTrue, false, get_or, ℕ, ◌<◌, ◌≤◌}

abbrev pub invariant-loop-j : goal.invariant-loop-j
invariant-loop-j l = (k : ℕ) → k < l.j → ¬ (IsTrue (get_or l.marks k false)) → IsSubset (zero_set l.zeros.rows l.i) (zero_set l.zeros.rows k) → (l.i ≤ k) × IsSubset (zero_set l.zeros.rows k) (zero_set l.zeros.rows l.i)
