-- The places of the vertices that are left follow those found.
use Rattle.pm_incidence.proofs.short.short_places.Given as goal
use Rattle.pm_incidence.specs.Incidence.{places_from}
use Rattle.std.proofs.Common.{drop, ◌++◌, ◌≡◌}

abbrev pub invariant-loop-j : goal.invariant-loop-j
invariant-loop-j l = places_from 0 l.facet l.vertices ≡ l.places.items ++ places_from l.j l.facet (drop l.j l.vertices)
