-- Each turn copies one set more.
use Rattle.pm_geom.proofs.Copies.{copied}
use Rattle.pm_geom.proofs.lists.copy_sets.Goals as goal
use Rattle.std.proofs.Common.{arith, ◌∙◌, ap}

pub loop-set-preserved : goal.loop-set-preserved
loop-set-preserved c =
    rw c.in_ok-push.ensures.items (copied (λ r. r.items) c.args.sets.now c.loop-set.made.items c.in_ok-from_slice.field-0 c.loop-set.set-index c.set-item.result c.loop-set.invariant (omega arith) (c.in_ok-from_slice.ensures.items ∙ c.deref.ensures.value ∙ ap (λ r. r.items) c.set-item.is))
