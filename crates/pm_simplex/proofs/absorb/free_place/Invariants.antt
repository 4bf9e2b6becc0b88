use Rattle.pm_vector.specs.Bases.{column}
use Rattle.pm_programs.specs.Dictionaries.{at}
use Rattle.pm_simplex.proofs.absorb.free_place.Given as goal
use Rattle.pm_simplex.specs.Comparisons.{rows_of}
use Rattle.pm_simplex.specs.Running.{IsFreeColumn}
use Rattle.std.proofs.Common.{pos, ℕ, ◌<◌, ◌≡◌}

abbrev pub invariant-loop-j : goal.invariant-loop-j
invariant-loop-j l = (k : ℕ) → k < l.j → IsFreeColumn l.y (column l.d.others.items k) → (at (rows_of l.d) l.i k).num ≡ pos 0
