-- The fractions so far are the entries so far over the first, in lowest terms.
use Rattle.pm_vector.specs.Rows.{entry, ratio_at}
use Rattle.pm_types.proofs.fractions.over_first.Given as goal
use Rattle.pm_fraction.specs.Fractions.{IsLowestTermsOf, ratio_of}
use Rattle.std.proofs.Common.{length, ◌<◌, ◌≡◌, ℕ}

abbrev pub invariant-loop-k : goal.invariant-loop-k
invariant-loop-k l = record {
  count : length l.fractions.items ≡ l.k;
  each : (i : ℕ) → i < l.k → IsLowestTermsOf (ratio_of (entry l.row i) (entry l.row 0)) (ratio_at l.fractions.items i);
}
