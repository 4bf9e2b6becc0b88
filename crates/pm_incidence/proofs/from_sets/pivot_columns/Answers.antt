use Rattle.pm_incidence.proofs.SetRows.{pivots_all, pivots_more}
use Rattle.pm_incidence.proofs.from_sets.pivot_columns.Goals as goal
use Rattle.std.proofs.Common.{arith}

pub loop-row-preserved : goal.loop-row-preserved
loop-row-preserved c n P e = pivots_more n c.args.rows.now P e c.loop-row.row-index c.loop-row-test.true c.row-item.result c.row-item.is c.leading_column.result c.leading_column.ensures.before c.leading_column.ensures.leads c.loop-row.columns.items c.push.new.self.items (c.loop-row.invariant n P e) c.in_ok-push.ensures.items

pub returns : goal.returns
returns c n P e = pivots_all n c.args.rows.now P e c.loop-row.row-index (let l = c.loop-row-test.false in omega arith) c.loop-row.columns.items (c.loop-row.invariant n P e)
