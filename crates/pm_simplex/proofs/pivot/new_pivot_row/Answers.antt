use Rattle.pm_vector.specs.Numbers.{InRangeRatio}
use Rattle.pm_simplex.proofs.Pushed.{count_pushed, pushed}
use Rattle.pm_simplex.proofs.pivot.new_pivot_row.Goals as goal
use Rattle.pm_programs.specs.Dictionaries.{IsNewHere}
use Rattle.pm_fraction.specs.Fractions.{ratio_of}
use Rattle.std.proofs.Common.{pos}

pub loop-k-preserved : goal.loop-k-preserved
loop-k-preserved c = record {
  count = count_pushed c.loop-k.new.items c.push.new.self.items c.in-Ok.r c.loop-k.k c.in_ok-push-in-Ok.ensures.items c.loop-k.invariant.count;
  ok = pushed (λ k r. IsNewHere c.args.x.now c.args.j k r) (ratio_of (pos 0) (pos 1)) c.loop-k.new.items c.push.new.self.items c.in-Ok.r c.loop-k.k c.in_ok-push-in-Ok.ensures.items c.loop-k.invariant.count c.loop-k.invariant.ok c.in-Ok.ensures.ok;
  fits = pushed (λ k r. InRangeRatio r) (ratio_of (pos 0) (pos 1)) c.loop-k.new.items c.push.new.self.items c.in-Ok.r c.loop-k.k c.in_ok-push-in-Ok.ensures.items c.loop-k.invariant.count c.loop-k.invariant.fits c.in-Ok.ensures.fits;
}
