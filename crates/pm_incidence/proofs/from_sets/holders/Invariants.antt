-- the places of the sets that are left follow those found
use Rattle.pm_incidence.proofs.from_sets.holders.Given as goal
use Rattle.pm_incidence.specs.FromSets.{holders_from}
use Rattle.std.proofs.Common.{drop, map, ◌++◌, ◌≡◌}

abbrev pub invariant-loop-i : goal.invariant-loop-i
invariant-loop-i l = holders_from 0 (map (λ r. r.items) l.sets) l.index ≡ l.places.items ++ holders_from l.i (map (λ r. r.items) (drop l.i l.sets)) l.index
