use Rattle.pm_elim.specs.Lost.{PrimitiveIsLost}
use Rattle.pm_lift.proofs.LiftedRows.{last_two}
use Rattle.pm_lift.proofs.RowsMade.{passed, passed_as, product_is}
use Rattle.pm_lift.proofs.wide_rows.wide_lifted.Goals as goal
use Rattle.pm_vector.specs.Rows.{Row, entry}
use Rattle.pm_vector.specs.WideInts.{value_of}
use Rattle.std.proofs.Common.{subst, ◌∙◌}
use Rattle.std.specs.Prelude.{IfNone, IfOk}

pub returns-clause-lost : goal.returns-clause-lost
returns-clause-lost c =
    let row = c.args.row.now in
    let height = c.args.height in
    let last = product_is (value_of c.product-last.result) _ _ (entry row 0) height.num c.product-last.ensures (passed c.get.result c.get.ensures.in_range ∙ c.get.ensures.value) (passed_as c.num.result height.num c.num.ensures.value c.num.ensures.in_range) in
    let same = last_two _ height.den (value_of c.product-last.result) _ row (passed_as c.den.result height.den c.den.ensures.value c.den.ensures.in_range) last in
    subst (λ (x : Row). IfOk c.wide_row.result (λ o. IfNone o (PrimitiveIsLost x))) same c.wide_row.ensures.lost
