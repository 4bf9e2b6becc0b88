use Rattle.pm_vector.specs.Numbers.{InRangeRatio}
use Rattle.pm_vector.specs.Rows.{ratio_at}
use Rattle.pm_simplex.proofs.Pushed.{count_pushed, pushed}
use Rattle.pm_simplex.proofs.pivot.new_other_row.Goals as goal
use Rattle.pm_programs.specs.Dictionaries.{IsNewElsewhere}
use Rattle.pm_fraction.specs.Fractions.{ratio_of}
use Rattle.std.proofs.Common.{arith, length, pos, ◌<◌, ◌≡◌}
use Rattle.std.proofs.lemmas.List.{get_or_read}

pub loop-k-preserved : goal.loop-k-preserved
loop-k-preserved c =
    let in_b : c.loop-k.k < length c.args.b.now = omega arith in
    let is : c.index-b-k.result ≡ ratio_at c.args.b.now c.loop-k.k = get_or_read c.args.b.now c.loop-k.k c.index-b-k.result in_b c.index-b-k.is (ratio_of (pos 0) (pos 1)) in
    record {
      count = count_pushed c.loop-k.new.items c.push.new.self.items c.in-Ok.r c.loop-k.k c.in_ok-push-in-Ok.ensures.items c.loop-k.invariant.count;
      ok = pushed (λ k r. IsNewElsewhere c.args.x.now c.args.y.now c.args.j k (ratio_at c.args.b.now k) r) (ratio_of (pos 0) (pos 1)) c.loop-k.new.items c.push.new.self.items c.in-Ok.r c.loop-k.k c.in_ok-push-in-Ok.ensures.items c.loop-k.invariant.count c.loop-k.invariant.ok (rw is at c.in-Ok.ensures.ok);
      fits = pushed (λ k r. InRangeRatio r) (ratio_of (pos 0) (pos 1)) c.loop-k.new.items c.push.new.self.items c.in-Ok.r c.loop-k.k c.in_ok-push-in-Ok.ensures.items c.loop-k.invariant.count c.loop-k.invariant.fits c.in-Ok.ensures.fits;
    }
