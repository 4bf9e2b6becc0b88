use Rattle.pm_graph.proofs.TableRows.{entry_more}
use Rattle.pm_graph.proofs.inclusions.table_row.Goals as goal
use Rattle.std.proofs.Common.{map}

pub loop-k-preserved : goal.loop-k-preserved
loop-k-preserved c = entry_more (map (λ row. row.items) c.args.counts.now) c.args.i c.loop-k.k c.entry.result c.loop-k.row.items c.push.new.self.items c.fraction.result c.in_ok-push.ensures.items c.fraction.ensures c.entry.ensures.value c.loop-k.invariant
