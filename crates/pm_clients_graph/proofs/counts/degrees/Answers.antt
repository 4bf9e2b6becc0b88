use Rattle.pm_clients_graph.proofs.CountTurns.{all_degrees}
use Rattle.pm_clients_graph.proofs.counts.degrees.Goals as goal
use Rattle.std.proofs.Common.{arith}

pub returns : goal.returns
returns c = all_degrees (λ row. row.items) c.rows-row-items.result.now c.loop-row.numbers.items c.loop-row.row-index c.args.graph.now.rows (omega arith) c.loop-row.invariant c.rows-row-items.ensures
