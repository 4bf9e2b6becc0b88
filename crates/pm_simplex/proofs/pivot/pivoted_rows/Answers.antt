use Rattle.pm_simplex.proofs.Pushed.{count_rows, row_pushed}
use Rattle.pm_simplex.proofs.pivot.pivoted_rows.Goals as goal
use Rattle.pm_programs.specs.Dictionaries.{IsRowAfter}
use Rattle.std.proofs.Common.{map}

pub loop-i-preserved : goal.loop-i-preserved
loop-i-preserved c =
    let is_b = c.deref.ensures.value in
    let row = c.in_ok-row.ensures in
    record {
      count = count_rows (λ r. r.items) (λ i r. IsRowAfter c.args.cols (map (λ r. r.items) c.args.rows.now) c.args.l c.args.j c.in_ok-new.new.items i r) c.loop-i.after.items c.push.new.self.items c.in_ok-row.row c.loop-i.i c.in_ok-push.ensures.items c.loop-i.invariant.count;
      rows = row_pushed (λ r. r.items) (λ i r. IsRowAfter c.args.cols (map (λ r. r.items) c.args.rows.now) c.args.l c.args.j c.in_ok-new.new.items i r) c.loop-i.after.items c.push.new.self.items c.in_ok-row.row c.loop-i.i c.in_ok-push.ensures.items c.loop-i.invariant.count c.loop-i.invariant.rows
          (rw (← is_b) record { count = row.count; here = row.here; elsewhere = row.elsewhere; fits = row.fits });
    }
