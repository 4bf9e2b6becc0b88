use Rattle.pm_vector.specs.Rows.{entry}
use Rattle.pm_vector.proofs.Held.{kept}
use Rattle.pm_vector.proofs.WideSums.{small_more, within_more}
use Rattle.pm_vector.proofs.wide_product.add_product.Goals as goal
use Rattle.pm_vector.specs.WideInts.{value_of}
use Rattle.std.proofs.Common.{FitsSigned, arith, rules, ◌<◌, ◌^◌}
use Rattle.std.specs.Int.{w128}

pub unreachable-requires : goal.unreachable-requires
unreachable-requires c =
    let fits_a : FitsSigned w128 (entry c.args.a.now c.args.i) = search rules in
    let fits_b : FitsSigned w128 (entry c.args.b.now c.args.i) = search rules in
    let product = rw (kept (entry c.args.a.now c.args.i) fits_a, kept (entry c.args.b.now c.args.i) fits_b) at c.product.ensures in
    let few : c.args.i < 2 ^ 64 = omega arith in
    c.in_default.ensures.none (rw product (within_more (value_of c.args.sum) (entry c.args.a.now c.args.i) (entry c.args.b.now c.args.i) c.args.i fits_a fits_b few c.requires.small))

pub returns-clause-small : goal.returns-clause-small
returns-clause-small c =
    let fits_a : FitsSigned w128 (entry c.args.a.now c.args.i) = search rules in
    let fits_b : FitsSigned w128 (entry c.args.b.now c.args.i) = search rules in
    let product = rw (kept (entry c.args.a.now c.args.i) fits_a, kept (entry c.args.b.now c.args.i) fits_b) at c.product.ensures in
    small_more (value_of c.args.sum) (entry c.args.a.now c.args.i) (entry c.args.b.now c.args.i) _ c.args.i fits_a fits_b c.requires.small (rw product at c.in-Some.ensures.some)
