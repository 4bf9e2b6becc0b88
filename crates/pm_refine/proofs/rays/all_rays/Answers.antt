use Rattle.pm_refine.proofs.RaysMade.{all_rays_answered, joined_end}
use Rattle.pm_refine.proofs.rays.all_rays.Goals as goal
use Rattle.pm_refine.specs.CutRows.{intersection_of}
use Rattle.std.proofs.Common.{map}

pub returns : goal.returns
returns c = all_rays_answered (map intersection_of c.args.cones.now) c.loop-cone.all.items c.sort.new.self.items c.dedup.new.self.items (joined_end intersection_of c.args.cones.now c.loop-cone.cone-index c.loop-cone.all.items c.loop-cone-test.false c.loop-cone.invariant) c.in_ok-sort.ensures.permutation c.in_ok-sort.ensures.sorted c.dedup.ensures.filtered
