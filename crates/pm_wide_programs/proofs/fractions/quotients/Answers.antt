use Rattle.pm_dual.proofs.RowSums.{quotients_more}
use Rattle.pm_fraction.specs.Fractions.{IsLowestTermsOf, ratio_of}
use Rattle.pm_vector.specs.WideInts.{value_of}
use Rattle.pm_wide_programs.proofs.ValueRows.{at_value}
use Rattle.pm_wide_programs.proofs.fractions.quotients.Goals as goal
use Rattle.pm_wide_programs.specs.Values.{values}
use Rattle.std.proofs.Common.{arith}

pub loop-i-preserved : goal.loop-i-preserved
loop-i-preserved c = record {
  count = (let e = c.in_ok-push-in-Some.ensures.len in let f = c.loop-i.invariant.count in omega arith);
  each = quotients_more (values c.args.x.now) (value_of c.args.d) c.loop-i.row.items c.push.new.self.items c.in-Some.f c.loop-i.i c.loop-i.invariant.count c.loop-i.invariant.each c.in_ok-push-in-Some.ensures.items
      (at_value (λ z. IsLowestTermsOf (ratio_of z (value_of c.args.d)) c.in-Some.f) c.args.x.now c.loop-i.i _ c.loop-i-test.true c.in-Some.ensures.lowest);
}
