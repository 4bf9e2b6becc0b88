use Rattle.pm_vector.specs.Bases.{row_at}
use Rattle.pm_vector.specs.Rows.{dot}
use Rattle.pm_wide_programs.proofs.products.none_negative.Given as goal
use Rattle.pm_wide_programs.specs.Values.{values}
use Rattle.std.proofs.Common.{pos, ℕ, ◌<◌}
use lib.Signed.{◌≤ℤ◌}

abbrev pub invariant-loop-i : goal.invariant-loop-i
invariant-loop-i l = (k : ℕ) → k < l.i → pos 0 ≤ℤ dot (row_at l.rows k) (values l.x)
