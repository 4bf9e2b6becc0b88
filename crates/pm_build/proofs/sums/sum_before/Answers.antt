use Rattle.pm_build.proofs.SumLaws.{entries_more}
use Rattle.pm_build.proofs.sums.sum_before.Goals as goal
use Rattle.pm_vector.proofs.Kept.{kept}

pub loop-k-preserved : goal.loop-k-preserved
loop-k-preserved c =
    let more = entries_more c.args.f.first c.args.f.second c.args.v.now c.args.w.now c.loop-k.row c.push.new.self c.in-Ok.x c.loop-k.k (rw (kept c.in-Ok.x c.in-Ok.ensures.in_range) at c.in_ok-push-in-Ok.ensures.ok) c.loop-k.invariant.count c.loop-k.invariant.entries c.in-Ok.ensures.value c.loop-k.invariant.numbers c.in-Ok.ensures.stays in
    record { count = more.0; entries = more.1; numbers = more.2 }
