use Rattle.pm_maximise.proofs.Columns.{cols_by_place}
use Rattle.pm_maximise.proofs.problem.have_cols.Goals as goal
use Rattle.std.proofs.Common.{arith}

pub returns : goal.returns
returns c = λ t. let end = c.loop-row-test.false in cols_by_place c.args.cols c.args.rows.now (λ j l. c.loop-row.invariant j (omega arith))
