use Rattle.pm_vector.specs.Rows.{entry}
use Rattle.pm_bits.specs.Sets.{IsSubset}
use Rattle.pm_dd.proofs.near.unions_of.Given as goal
use Rattle.pm_dd.specs.Tables.{zero_set}
use Rattle.std.proofs.Common.{length, pos, ℕ, ◌<ℤ◌, ◌<◌, ◌≡◌}

abbrev pub invariant-loop-k : goal.invariant-loop-k
invariant-loop-k l = record {
  ahead_len : length l.ahead ≡ l.zeros.row_len;
  behind_len : length l.behind ≡ l.zeros.row_len;
  spare_len : length l.spare ≡ l.zeros.row_len;
  ahead : (m : ℕ) → m < l.k → pos 0 <ℤ entry l.values m → IsSubset (zero_set l.zeros.rows m) l.ahead;
  behind : (m : ℕ) → m < l.k → entry l.values m <ℤ pos 0 → IsSubset (zero_set l.zeros.rows m) l.behind;
}
