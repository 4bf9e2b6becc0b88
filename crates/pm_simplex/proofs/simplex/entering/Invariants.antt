use Rattle.pm_vector.specs.Bases.{column}
use Rattle.pm_simplex.proofs.simplex.entering.Given as goal
use Rattle.pm_simplex.specs.Comparisons.{rows_of}
use Rattle.pm_programs.specs.Dictionaries.{at}
use Rattle.pm_simplex.specs.Running.{IsFreeColumn, IsSlackColumn}
use Rattle.std.proofs.Common.{pos, ℕ, ◌<◌, ◌≡◌}
use lib.Signed.{◌≤ℤ◌}

abbrev pub invariant-loop-k : goal.invariant-loop-k
invariant-loop-k l = record {
  free : (k : ℕ) → 0 < k → k < l.k → IsFreeColumn l.y (column l.d.others.items k) → (at (rows_of l.d) l.z k).num ≡ pos 0;
  slack : (k : ℕ) → 0 < k → k < l.k → IsSlackColumn l.y (column l.d.others.items k) → (at (rows_of l.d) l.z k).num ≤ℤ pos 0;
}
