use Rattle.std.proofs.Common.{ℕ, ◌<◌, [], get_or}
use Rattle.pm_bits.specs.Sets.{IsSubset}
use Rattle.pm_bits.proofs.table.BitTable.row_implies.Given as goal

abbrev pub invariant-loop-k : goal.invariant-loop-k
invariant-loop-k l = (m : ℕ) → m < l.k → IsSubset l.s (get_or l.self.rows m []) → IsSubset l.t (get_or l.self.rows m [])
