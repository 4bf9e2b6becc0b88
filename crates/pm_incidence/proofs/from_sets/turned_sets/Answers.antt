use Rattle.pm_incidence.proofs.TurnedSets.{columns_next}
use Rattle.pm_incidence.proofs.from_sets.turned_sets.Goals as goal

pub loop-column-preserved : goal.loop-column-preserved
loop-column-preserved c = columns_next (λ r. r.items) c.args.s.now.rows c.loop-column.column c.loop-column.columns.items c.push.new.self.items c.in_ok-holders.field-0 c.loop-column.invariant c.in_ok-push.ensures.items (rw c.rows-sets.ensures at c.in_ok-holders.ensures)
