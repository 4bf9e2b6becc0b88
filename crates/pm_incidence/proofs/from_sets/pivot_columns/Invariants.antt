-- the pivot columns of the rows so far
use Rattle.pm_vector.specs.Bases.{IsEchelonBasis}
use Rattle.pm_incidence.proofs.from_sets.pivot_columns.Given as goal
use Rattle.std.proofs.Common.{List, take, ◌≡◌, ℕ}

abbrev pub invariant-loop-row : goal.invariant-loop-row
invariant-loop-row l = (n : ℕ) (P : List ℕ) → IsEchelonBasis n l.rows P → l.columns.items ≡ take l.row-index P
