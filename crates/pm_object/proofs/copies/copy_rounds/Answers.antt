-- Each turn adds one more.
use Rattle.pm_geom.proofs.Copies.{copied}
use Rattle.pm_object.specs.Views.{round_seen}
use Rattle.pm_object.proofs.copies.copy_rounds.Goals as goal
use Rattle.std.proofs.Common.{ap, arith, ◌∙◌}

pub loop-r-preserved : goal.loop-r-preserved
loop-r-preserved c = rw c.in_ok-push.ensures.items (copied round_seen c.args.rounds.now c.loop-r.copies.items c.in_ok-copy_round.field-0 c.loop-r.r-index c.r-item.result c.loop-r.invariant (omega arith) (c.in_ok-copy_round.ensures ∙ ap round_seen c.r-item.is))
