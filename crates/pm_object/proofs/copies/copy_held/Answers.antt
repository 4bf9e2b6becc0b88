-- Each turn adds one more.
use Rattle.pm_geom.proofs.Copies.{copied}
use Rattle.pm_object.specs.Views.{held_seen}
use Rattle.pm_object.proofs.copies.copy_held.Goals as goal
use Rattle.std.proofs.Common.{ap, arith, ◌∙◌}

pub loop-h-preserved : goal.loop-h-preserved
loop-h-preserved c = rw c.in_ok-push.ensures.items (copied held_seen c.args.held.now c.loop-h.copies.items c.in_ok-copy_value.field-0 c.loop-h.h-index c.h-item.result c.loop-h.invariant (omega arith) (c.in_ok-copy_value.ensures ∙ ap held_seen c.h-item.is))
