use Rattle.pm_elim.proofs.nulls.tail_rows.Given as goal
use Rattle.std.proofs.Common.{drop, map, take, ◌≡◌}

abbrev pub invariant-loop-row : goal.invariant-loop-row
invariant-loop-row l = l.made.items ≡ map (drop l.from) (take l.row-index l.rows)
