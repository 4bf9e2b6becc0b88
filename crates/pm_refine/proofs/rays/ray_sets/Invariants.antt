-- The sets of the intersections that are left follow those so far.
use Rattle.pm_refine.proofs.rays.ray_sets.Given as goal
use Rattle.pm_refine.specs.CutRows.{intersection_of}
use Rattle.pm_refine.specs.RaySets.{places_from}
use Rattle.std.proofs.Common.{drop, map, ◌++◌, ◌≡◌}

abbrev pub invariant-loop-cone : goal.invariant-loop-cone
invariant-loop-cone l = map (λ s. s.items) l.sets.items ++ map (λ a. places_from 0 a.rays l.all) (map intersection_of (drop l.cone-index l.cones)) ≡ map (λ a. places_from 0 a.rays l.all) (map intersection_of l.cones)
