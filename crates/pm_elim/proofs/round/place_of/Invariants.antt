use Rattle.pm_vector.specs.Bases.{column}
use Rattle.pm_elim.proofs.round.place_of.Given as goal
use Rattle.std.proofs.Common.{◌<◌, ℕ}

abbrev pub invariant-loop-i : goal.invariant-loop-i
invariant-loop-i l = (i : ℕ) → i < l.i → column l.pivots i < l.pivot
