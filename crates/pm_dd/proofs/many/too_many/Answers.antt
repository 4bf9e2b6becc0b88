use Rattle.pm_dd.proofs.Moving.{both_many}
use Rattle.pm_dd.proofs.many.too_many.Goals as goal
use Rattle.std.proofs.Common.{arith, length, ◌++◌, ◌<◌}
use Rattle.std.proofs.lemmas.List.{length-append}
use Rattle.pm_limits.specs.Limits.{most_rows}

pub returns-clause-shown : goal.returns-clause-shown
returns-clause-shown c =
    let all = c.in_ok-all.all.items in
    let made = c.args.made.items in
    let many : most_rows < length (all ++ made) = let n = c.in_ok-all.ensures.count in let e = length-append all made in let m = c.requires.many in omega arith in
    rw c.in_ok-append.ensures.items
    (both_many c.args.cols c.args.equations.now c.args.rows.now c.args.front c.requires.within c.args.rays.now.rows.items c.args.rays.now.zeros.rows c.requires.table c.requires.equation_cols c.requires.row_cols c.requires.spanned all made c.requires.listed.0 c.requires.listed.1 c.in_ok-all.ensures.listed c.requires.listed.2 many)
