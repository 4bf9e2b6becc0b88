-- The rows so far have a first entry above 0.
use Rattle.pm_tests.proofs.rows.start_above.Given as goal
use Rattle.pm_vector.specs.Bases.{row_at}
use Rattle.pm_vector.specs.Rows.{entry}
use Rattle.std.proofs.Common.{pos, ℕ, ◌<◌}
use lib.Signed.{◌<ℤ◌}

abbrev pub invariant-loop-i : goal.invariant-loop-i
invariant-loop-i l = (k : ℕ) → k < l.i → pos 0 <ℤ entry (row_at l.rows k) 0
