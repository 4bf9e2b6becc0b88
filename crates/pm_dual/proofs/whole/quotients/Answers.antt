use Rattle.pm_vector.specs.Rows.{entry}
use Rattle.pm_dual.proofs.RowSums.{quotients_more}
use Rattle.pm_dual.proofs.whole.quotients.Goals as goal
use Rattle.pm_fraction.specs.Fractions.{IsLowestTermsOf, ratio_of}
use Rattle.std.proofs.Common.{arith, of_z, rules, subst, to_z, ℤ}
use Rattle.std.proofs.lemmas.Int.{to_z-of_z}
use mir.Syntax.{w128}

pub loop-i-preserved : goal.loop-i-preserved
loop-i-preserved c = record {
  count = (let e = c.in_ok-push-in-Ok.ensures.len in let f = c.loop-i.invariant.count in omega arith);
  each = quotients_more c.args.x.now _ c.loop-i.row.items c.push.new.self.items c.in-Ok.f c.loop-i.i c.loop-i.invariant.count c.loop-i.invariant.each c.in_ok-push-in-Ok.ensures.items (subst (λ (z : ℤ). IsLowestTermsOf (ratio_of z (to_z w128 (of_z w128 c.args.d))) c.in-Ok.f) (to_z-of_z w128 (entry c.args.x.now c.loop-i.i) (search rules)) c.in-Ok.ensures.ok);
}
