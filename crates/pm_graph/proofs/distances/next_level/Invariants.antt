use Rattle.pm_graph.proofs.Marks.{Leveled}
use Rattle.pm_graph.proofs.distances.next_level.Given as goal
use Rattle.std.proofs.Common.{map, take}

abbrev pub invariant-loop-node : goal.invariant-loop-node
invariant-loop-node l = Leveled (map (λ row. row.items) l.rows) (take l.node-index l.front) l.initial.seen l.seen l.next.items l.left
