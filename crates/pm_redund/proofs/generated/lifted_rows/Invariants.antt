use Rattle.pm_geom.specs.StatedOrder.{rows_marked}
use Rattle.pm_redund.proofs.generated.lifted_rows.Given as goal
use Rattle.pm_simplex.specs.Generated.{lifted}
use Rattle.std.proofs.Common.{drop, true, ◌++◌, ◌≡◌}

abbrev pub invariant-loop-i : goal.invariant-loop-i
invariant-loop-i l = l.made.items ++ lifted (rows_marked true (drop l.i l.marks) (drop l.i l.rows)) ≡ lifted (rows_marked true l.marks l.rows)
