-- The degrees of the nodes so far.
use Rattle.pm_clients_graph.proofs.counts.degrees.Given as goal
use Rattle.std.proofs.Common.{length, map, pos, take, ◌≡◌}

abbrev pub invariant-loop-row : goal.invariant-loop-row
invariant-loop-row l = l.numbers.items ≡ map (λ row. pos (length row.items)) (take l.row-index l.row-items)
