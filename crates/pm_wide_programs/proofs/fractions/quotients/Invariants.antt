use Rattle.pm_fraction.specs.Fractions.{IsLowestTermsOf, ratio_of}
use Rattle.pm_vector.specs.Rows.{entry, ratio_at}
use Rattle.pm_vector.specs.WideInts.{value_of}
use Rattle.pm_wide_programs.proofs.fractions.quotients.Given as goal
use Rattle.pm_wide_programs.specs.Values.{values}
use Rattle.std.proofs.Common.{length, ℕ, ◌<◌, ◌≡◌}

abbrev pub invariant-loop-i : goal.invariant-loop-i
invariant-loop-i l = record {
  count : length l.row.items ≡ l.i;
  each : (k : ℕ) → k < l.i → IsLowestTermsOf (ratio_of (entry (values l.x) k) (value_of l.d)) (ratio_at l.row.items k);
}
