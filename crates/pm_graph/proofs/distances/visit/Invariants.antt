use Rattle.pm_graph.proofs.Marks.{Visited}
use Rattle.pm_graph.proofs.distances.visit.Given as goal
use Rattle.std.proofs.Common.{take}

abbrev pub invariant-loop-node : goal.invariant-loop-node
invariant-loop-node l = Visited l.initial.seen l.seen l.initial.next.items l.next.items (take l.node-index l.row)
