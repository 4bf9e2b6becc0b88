use Rattle.pm_vector.specs.Numbers.{InRangeRatio}
use Rattle.pm_vector.specs.Rows.{ratio_at}
use Rattle.pm_simplex.proofs.pivot.new_pivot_row.Given as goal
use Rattle.pm_programs.specs.Dictionaries.{IsNewHere}
use Rattle.std.proofs.Common.{length, ℕ, ◌<◌, ◌≡◌}

abbrev pub invariant-loop-k : goal.invariant-loop-k
invariant-loop-k l = record {
  count : length l.new.items ≡ l.k;
  ok : (k : ℕ) → k < l.k → IsNewHere l.x l.j k (ratio_at l.new.items k);
  fits : (k : ℕ) → k < l.k → InRangeRatio (ratio_at l.new.items k);
}
