use Rattle.pm_elim.proofs.CountLaws.{tails_at_least}
use Rattle.pm_elim.proofs.ExtendedLaws.{extended_cols}
use Rattle.pm_elim.proofs.NullLaws.{tails_are_null_basis}
use Rattle.pm_elim.proofs.wide_nulls.wide_null.Goals as goal

pub wide_basis-requires : goal.wide_basis-requires
wide_basis-requires c = rw c.deref.ensures.value (extended_cols c.args.cols c.args.rows.now c.in_ok-listed.listed.items c.requires.columns c.in_ok-listed.ensures)

pub returns-clause-null : goal.returns-clause-null
returns-clause-null c =
    tails_are_null_basis c.args.cols c.args.rows.now c.in_ok-whole.whole.rows.items c.in_ok-null.null.rows.items c.in_ok-whole.whole.pivots.items c.in_ok-null.null.pivots.items c.requires.columns
    (record { listed = c.in_ok-listed.listed.items; extended = c.in_ok-listed.ensures; basis = rw c.deref.ensures.value at c.in_ok-whole.ensures.basis }) c.in_ok-null.ensures

pub returns-clause-count : goal.returns-clause-count
returns-clause-count c =
    tails_at_least c.args.cols c.args.rows.now c.in_ok-listed.listed.items c.in_ok-whole.whole.rows.items c.in_ok-whole.whole.pivots.items c.requires.columns c.in_ok-listed.ensures
    (rw c.deref.ensures.value at c.in_ok-whole.ensures.basis) c.in_ok-null.null.rows.items c.in_ok-null.null.pivots.items c.in_ok-null.ensures
