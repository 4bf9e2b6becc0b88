-- The rays of the intersections that are left follow those so far.
use Rattle.pm_refine.proofs.rays.all_rays.Given as goal
use Rattle.pm_refine.specs.CutRows.{intersection_of}
use Rattle.pm_refine.specs.RaySets.{joined_rays}
use Rattle.std.proofs.Common.{drop, map, ◌++◌, ◌≡◌}

abbrev pub invariant-loop-cone : goal.invariant-loop-cone
invariant-loop-cone l = l.all.items ++ joined_rays (map intersection_of (drop l.cone-index l.cones)) ≡ joined_rays (map intersection_of l.cones)
