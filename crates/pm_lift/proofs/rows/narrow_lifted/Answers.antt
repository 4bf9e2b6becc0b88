use Rattle.pm_lift.proofs.RowsMade.{lifted_entries, passed, passed_as, product_is}
use Rattle.pm_lift.proofs.rows.narrow_lifted.Goals as goal
use Rattle.pm_vector.specs.Divisors.{IsPrimitiveOf}
use Rattle.pm_vector.specs.Rows.{entry}
use Rattle.std.proofs.Common.{subst, ◌∙◌}

pub returns-clause-lifted : goal.returns-clause-lifted
returns-clause-lifted c =
    let row = c.args.row.now in
    let height = c.args.height in
    let f = passed c.in_ok-product.field-0 c.in_ok-product.ensures.in_range
    ∙ product_is c.in_ok-product.field-0 _ _ (entry row 0) height.num c.in_ok-product.ensures.value (passed c.get.result c.get.ensures.in_range ∙ c.get.ensures.value) (passed_as c.num.result height.num c.num.ensures.value c.num.ensures.in_range) in
    let e = lifted_entries row height.den height.num _ c.in_ok-made.made c.push.new.self c.in_ok-made.ensures.value f c.in_ok-push.ensures.ok in
    subst (λ z. IsPrimitiveOf z c.primitive.new.v) e c.primitive.ensures.primitive
