use Rattle.pm_types.proofs.OverFirst.{over_more}
use Rattle.pm_types.proofs.fractions.over_first.Goals as goal
use Rattle.pm_vector.proofs.Kept.{kept}

pub loop-k-preserved : goal.loop-k-preserved
loop-k-preserved c =
    let last = rw (kept c.get.result c.get.ensures.in_range, kept c.get-in-loop-k.result c.get-in-loop-k.ensures.in_range, c.get.ensures.value, c.get-in-loop-k.ensures.value) at c.quotient.ensures in
    let more = over_more c.args.row.now _ c.loop-k.fractions.items c.push.new.self.items c.loop-k.k c.quotient.result c.in_ok-push.ensures.items c.loop-k.invariant.count c.loop-k.invariant.each last in
    record { count = more.0; each = more.1 }
