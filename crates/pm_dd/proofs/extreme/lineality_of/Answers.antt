use Rattle.pm_dd.proofs.ZeroRows.{null_of_whole}
use Rattle.pm_dd.proofs.extreme.lineality_of.Goals as goal
use Rattle.std.proofs.Common.{[], arith}

pub returns-then-independent-cols-clause-null : goal.returns-then-independent-cols-clause-null
returns-then-independent-cols-clause-null c =
    let whole = c.if-independent-cols.true in
    rw c.new.ensures.items ([], null_of_whole c.args.cols c.args.independent.now c.requires.columns c.requires.independent (omega arith))
