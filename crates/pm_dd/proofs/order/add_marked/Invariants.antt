use Rattle.pm_dd.proofs.order.add_marked.Given as goal
use Rattle.pm_geom.specs.StatedOrder.{rows_marked}
use Rattle.std.proofs.Common.{drop, ◌++◌, ◌≡◌}

abbrev pub invariant-loop-i : goal.invariant-loop-i
invariant-loop-i l = l.made.items ++ rows_marked l.mark (drop l.i l.marks) (drop l.i l.rows) ≡ l.fn.others.items ++ rows_marked l.mark l.marks l.rows
