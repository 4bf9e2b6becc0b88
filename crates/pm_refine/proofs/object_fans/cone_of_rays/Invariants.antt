-- The rays of the first places.
use Rattle.pm_refine.proofs.object_fans.cone_of_rays.Given as goal
use Rattle.pm_refine.specs.ObjectFans.{rays_at}
use Rattle.std.proofs.Common.{drop, ◌++◌, ◌≡◌}

abbrev pub invariant-loop-place : goal.invariant-loop-place
invariant-loop-place l = rays_at l.rays l.set ≡ l.rows.items ++ rays_at l.rays (drop l.place-index l.set)
