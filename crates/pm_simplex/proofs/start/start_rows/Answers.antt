use Rattle.pm_simplex.proofs.Pushed.{count_rows, row_pushed}
use Rattle.pm_simplex.proofs.start.start_rows.Goals as goal
use Rattle.pm_simplex.specs.Starts.{IsStartRow}

pub loop-i-preserved : goal.loop-i-preserved
loop-i-preserved c = record {
  count = count_rows (λ r. r.items) (λ i r. IsStartRow c.args.y c.args.a.now c.args.b.now c.args.c.now i r) c.loop-i.rows.items c.push.new.self.items c.in_ok-row.row c.loop-i.i c.in_ok-push.ensures.items c.loop-i.invariant.count;
  rows = row_pushed (λ r. r.items) (λ i r. IsStartRow c.args.y c.args.a.now c.args.b.now c.args.c.now i r) c.loop-i.rows.items c.push.new.self.items c.in_ok-row.row c.loop-i.i c.in_ok-push.ensures.items c.loop-i.invariant.count c.loop-i.invariant.rows c.in_ok-row.ensures;
}
