-- The sets of the facets that are left follow those found; so far all products stay in the range.
use Rattle.pm_incidence.proofs.sets.incidence.Given as goal
use Rattle.pm_incidence.specs.Incidence.{AllStay, incidence}
use Rattle.std.proofs.Common.{drop, false, map, take, ◌++◌, ◌≡◌}

abbrev pub invariant-loop-facet : goal.invariant-loop-facet
invariant-loop-facet l = (incidence l.facets l.vertices ≡ map (λ r. r.items) l.rows.items ++ incidence (drop l.facet-index l.facets) l.vertices) × (l.wide ≡ false → AllStay (take l.facet-index l.facets) l.vertices)
