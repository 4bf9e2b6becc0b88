-- The cones of the sets that are left follow those so far.
use Rattle.pm_refine.proofs.object_fans.cones_of_rays.Given as goal
use Rattle.pm_refine.specs.ObjectFans.{rays_at}
use Rattle.std.proofs.Common.{drop, map, ◌++◌, ◌≡◌}

abbrev pub invariant-loop-set : goal.invariant-loop-set
invariant-loop-set l = map (λ c. c.items) l.cones.items ++ map (rays_at l.rays) (map (λ s. s.items) (drop l.set-index l.sets)) ≡ map (rays_at l.rays) (map (λ s. s.items) l.sets)
