use Rattle.pm_vector.proofs.Lists.{among_All}
use Rattle.pm_refine.proofs.Indexed.{mapped_among}
use Rattle.pm_refine.proofs.objects.cone_sets.Goals as goal
use Rattle.std.proofs.Common.{ℕ, ◌<◌}
use Rattle.std.specs.List.{All}
use Rattle.std.specs.Prelude.{◌^◌}

pub places-requires : goal.places-requires
places-requires c = rw c.deref.ensures.value (among_All (λ s. All (λ (j : ℕ). j < 2 ^ 32) s) (mapped_among (λ s. s.items) c.args.sets.now c.loop-set.set-index c.set-item.result c.loop-set-test.true c.set-item.is) c.requires)
