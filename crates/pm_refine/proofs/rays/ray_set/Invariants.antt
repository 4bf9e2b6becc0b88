-- The places of the rows that are left follow those found.
use Rattle.pm_refine.proofs.rays.ray_set.Given as goal
use Rattle.pm_refine.specs.RaySets.{places_from}
use Rattle.std.proofs.Common.{drop, ◌++◌, ◌≡◌}

abbrev pub invariant-loop-j : goal.invariant-loop-j
invariant-loop-j l = places_from 0 l.rays l.all ≡ l.places.items ++ places_from l.j l.rays (drop l.j l.all)
