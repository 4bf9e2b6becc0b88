-- The entries so far.
use Rattle.pm_vector.specs.Rows.{entry}
use Rattle.pm_build.proofs.sums.sum_before.Given as goal
use Rattle.pm_build.specs.SumSteps.{NumbersStay, sum_entry}
use Rattle.std.proofs.Common.{length, ◌<◌, ◌≡◌, ℕ}

abbrev pub invariant-loop-k : goal.invariant-loop-k
invariant-loop-k l = record {
  count : length l.row ≡ l.k;
  entries : (i : ℕ) → i < l.k → entry l.row i ≡ sum_entry l.f.first l.f.second l.v l.w i;
  numbers : NumbersStay l.f.first l.f.second l.v l.w l.k;
}
