use Rattle.pm_vector.specs.Bases.{column}
use Rattle.pm_elim.proofs.duals.new_place.Given as goal
use Rattle.std.proofs.Common.{◌<◌, ℕ}
use Rattle.std.specs.Prelude.{Contains}

abbrev pub invariant-loop-i : goal.invariant-loop-i
invariant-loop-i l = (i : ℕ) → i < l.i → Contains l.old (column l.columns i)
