use Rattle.pm_vector.specs.Bases.{row_at}
use Rattle.pm_incidence.proofs.thin.thinned_rows.Given as goal
use Rattle.pm_incidence.specs.Thinning.{IsThinned}
use Rattle.std.proofs.Common.{get_or, length, ℕ, ◌<◌, ◌≡◌}

abbrev pub invariant-loop-place : goal.invariant-loop-place
invariant-loop-place l = record {
  many : length l.thin.items ≡ l.place-index;
  each : (k : ℕ) → k < l.place-index → IsThinned l.basis.rows l.basis.pivots (row_at l.rows (get_or l.places k 0)) (row_at l.thin.items k);
}
