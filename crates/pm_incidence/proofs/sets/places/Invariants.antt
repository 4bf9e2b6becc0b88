-- The places of the vertices that are left follow those found; so far all products stay in the range.
use Rattle.pm_incidence.proofs.sets.places.Given as goal
use Rattle.pm_incidence.specs.Incidence.{AllStay, places_from}
use Rattle.std.proofs.Common.{drop, false, take, [], ◌++◌, ◌∷◌, ◌≡◌}

abbrev pub invariant-loop-j : goal.invariant-loop-j
invariant-loop-j l = (places_from 0 l.facet l.vertices ≡ l.places.items ++ places_from l.j l.facet (drop l.j l.vertices)) × (l.wide ≡ false → AllStay (l.facet ∷ []) (take l.j l.vertices))
