use Rattle.pm_vector.specs.Rows.{entry}
use Rattle.pm_vector.specs.WideInts.{value_of}
use Rattle.pm_wide_programs.proofs.ValueRows.{product_all, product_more}
use Rattle.pm_wide_programs.proofs.products.product.Goals as goal
use Rattle.std.proofs.Common.{arith, length, rules, ◌<◌}
use Rattle.std.proofs.lemmas.Int.{to_z-of_z}
use mir.Syntax.{w128}

pub loop-i-preserved : goal.loop-i-preserved
loop-i-preserved c =
    let in_x : c.loop-i.i < length c.args.x.now = omega arith in
    product_more c.args.a.now c.args.x.now c.loop-i.i _ (value_of c.loop-i.sum) (value_of c.in_ok-sum.sum) _ c.loop-i-test.true in_x (to_z-of_z w128 (entry c.args.a.now c.loop-i.i) (search rules)) c.in_ok-sum.ensures c.loop-i.invariant

pub returns : goal.returns
returns c = product_all c.args.a.now c.args.x.now c.loop-i.i (value_of c.loop-i.sum) (omega arith) (omega arith) c.loop-i.invariant
