use Rattle.std.proofs.lemmas.Result.{err_from_is_err_and}
use Rattle.pm_elim.proofs.CountLaws.{null_count}
use Rattle.pm_elim.proofs.NullLaws.{tails_are_null_basis}
use Rattle.pm_elim.proofs.nulls.null_of.Goals as goal
use Rattle.pm_elim.proofs.nulls.null_of.Goals.{After-len}
use Rattle.std.proofs.Common.{arith, length, ◌≡◌}

count : (c : After-len) → c.len.result ≡ length c.args.basis.now.rows.items
count c = let n = c.len.ensures in let whole = c.args.basis.now.rows.ok.0 in omega arith

pub returns-clause-null : goal.returns-clause-null
returns-clause-null c =
    tails_are_null_basis c.args.cols c.args.basis.now.rows.items c.in_ok-whole.whole.rows.items c.in_ok-null.null.rows.items c.in_ok-whole.whole.pivots.items c.in_ok-null.null.pivots.items c.requires.is_basis.cols c.in_ok-whole.ensures.basis (rw (count (goal.at.returns-clause-null c).After-len) at c.in_ok-null.ensures)

pub returns-clause-count : goal.returns-clause-count
returns-clause-count c = null_count c.args.cols c.args.basis.now.rows.items c.args.basis.now.pivots.items c.in_ok-whole.whole.rows.items c.in_ok-null.null.rows.items c.in_ok-whole.whole.pivots.items c.in_ok-null.null.pivots.items c.requires.is_basis c.in_ok-whole.ensures.basis (rw (count (goal.at.returns-clause-count c).After-len) at c.in_ok-null.ensures)

pub returns-in_err-whole-clause-wide : goal.returns-in_err-whole-clause-wide
returns-in_err-whole-clause-wide c = let p = err_from_is_err_and c.from_residual.result c.from_residual.ensures.1 in rw (p.1, p.2) c.in_err-whole.ensures.wide

pub returns-in_err-whole-clause-list : goal.returns-in_err-whole-clause-list
returns-in_err-whole-clause-list c = let p = err_from_is_err_and c.from_residual.result c.from_residual.ensures.1 in rw (p.1, p.2) c.in_err-whole.ensures.list

pub returns-clause-never_wide : goal.returns-clause-never_wide
returns-clause-never_wide c = c.in_ok-whole.ensures.never_wide
