use Rattle.pm_dd.proofs.first.first_rows.Given as goal
use Rattle.std.proofs.Common.{take, ◌++◌, ◌≡◌}

abbrev pub invariant-loop-i : goal.invariant-loop-i
invariant-loop-i l = l.made.items ≡ l.equations ++ take l.i l.rows
