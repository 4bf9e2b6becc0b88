use Rattle.pm_build.proofs.RowLaws.{cols_opposite, length_headed, length_unit}
use Rattle.pm_build.proofs.shapes.opposite_rows.Goals as goal
use Rattle.pm_build.specs.Rows.{unit}
use Rattle.std.proofs.Common.{ap, arith, sym, ◌∙◌}

pub put_row-requires : goal.put_row-requires
put_row-requires c =
    rw (c.deref.ensures.value, c.in_ok-unit_row.ensures)
    (length_headed (unit c.one.result.num c.loop-i.i c.args.d) c.args.d (length_unit c.one.result.num c.loop-i.i c.args.d) ∙ sym (c.loop-i.invariant.cols ∙ cols_opposite c.args.d (let l = c.loop-i-test.true in omega arith)))

pub put_row-requires-in-loop-i : goal.put_row-requires-in-loop-i
put_row-requires-in-loop-i c =
    rw (c.deref-in-loop-i.ensures.value, c.in_ok-unit_row-2.ensures)
    (length_headed (unit c.neg.result.num c.loop-i.i c.args.d) c.args.d (length_unit c.neg.result.num c.loop-i.i c.args.d)
    ∙ sym (ap (λ m. m.cols) c.in_ok-put_row.ensures ∙ c.loop-i.invariant.cols ∙ cols_opposite c.args.d (let l = c.loop-i-test.true in omega arith)))
