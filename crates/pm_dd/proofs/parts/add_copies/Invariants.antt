use Rattle.pm_dd.proofs.parts.add_copies.Given as goal
use Rattle.std.proofs.Common.{take, ◌++◌, ◌≡◌}

abbrev pub invariant-loop-row : goal.invariant-loop-row
invariant-loop-row l = l.made.items ≡ l.fn.others.items ++ take l.row-index l.rows
