use Rattle.pm_elim.proofs.extended.column_row.Given as goal
use Rattle.pm_vector.specs.Evidence.{column_of}
use Rattle.std.proofs.Common.{take, ◌≡◌}

abbrev pub invariant-loop-row : goal.invariant-loop-row
invariant-loop-row l = l.made ≡ column_of (take l.row-index l.rows) l.i
