-- The later nodes so far.
use Rattle.pm_clients_graph.proofs.counts.later.Given as goal
use Rattle.std.proofs.Common.{count_by, nat_lt, take, ◌≡◌, ◌≤◌}

abbrev pub invariant-loop-j : goal.invariant-loop-j
invariant-loop-j l = (l.count ≡ count_by (nat_lt l.node) (take l.j-index l.row)) × (l.count ≤ l.j-index)
