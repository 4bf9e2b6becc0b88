use Rattle.pm_vector.specs.Bases.{row_at}
use Rattle.pm_vector.specs.Divisors.{IsPrimitiveOf}
use Rattle.pm_elim.proofs.wide_duals.primitive_tails.Given as goal
use Rattle.std.proofs.Common.{drop, length, ◌<◌, ◌≡◌, ℕ}

abbrev pub invariant-loop-i : goal.invariant-loop-i
invariant-loop-i l = record {
  as_many : length l.made.items ≡ l.i;
  each : (k : ℕ) → k < l.i → IsPrimitiveOf (drop l.from (row_at l.rows k)) (row_at l.made.items k);
}
