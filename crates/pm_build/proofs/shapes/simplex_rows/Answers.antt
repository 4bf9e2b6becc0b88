use Rattle.pm_build.proofs.RowLaws.{length_headed, length_unit}
use Rattle.pm_build.proofs.shapes.simplex_rows.Goals as goal
use Rattle.pm_build.specs.Rows.{unit}

pub put_row-requires-in-loop-i : goal.put_row-requires-in-loop-i
put_row-requires-in-loop-i c =
    rw (c.deref-in-loop-i.ensures.value, c.in_ok-unit_row.ensures, c.loop-i.invariant.cols) (length_headed (unit c.one.result.num c.loop-i.i c.args.d) c.args.d (length_unit c.one.result.num c.loop-i.i c.args.d))
