-- Each turn adds one more.
use Rattle.pm_geom.proofs.Copies.{made}
use Rattle.pm_object.specs.State.{settled}
use Rattle.pm_object.specs.Views.{held_seen}
use Rattle.pm_object.proofs.settled.settled_values.Goals as goal
use Rattle.std.proofs.Common.{arith}

pub loop-name-preserved : goal.loop-name-preserved
loop-name-preserved c = rw c.in_ok-push.ensures.items (made held_seen (settled c.args.n) c.args.names.now c.loop-name.values.items c.settled_at.result c.loop-name.name-index _ c.loop-name.invariant (omega arith) c.settled_at.ensures)
