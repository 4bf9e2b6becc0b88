use Rattle.pm_vector.proofs.Lists.{among_All}
use Rattle.pm_refine.proofs.Indexed.{mapped_among}
use Rattle.pm_refine.proofs.object_fans.cones_of_rays.Goals as goal
use Rattle.std.proofs.Common.{length, ℕ, ◌<◌}
use Rattle.std.specs.List.{All}

pub cone_of_rays-requires : goal.cone_of_rays-requires
cone_of_rays-requires c = rw c.deref.ensures.value (among_All (λ s. All (λ (j : ℕ). j < length c.args.rays.now) s) (mapped_among (λ s. s.items) c.args.sets.now c.loop-set.set-index c.set-item.result c.loop-set-test.true c.set-item.is) c.requires)
