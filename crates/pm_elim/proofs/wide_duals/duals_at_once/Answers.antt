use Rattle.pm_elim.proofs.DualTails.{duals_of_tails}
use Rattle.pm_elim.proofs.ExtendedLaws.{extended_cols}
use Rattle.pm_elim.proofs.wide_duals.duals_at_once.Goals as goal

pub wide_basis-requires : goal.wide_basis-requires
wide_basis-requires c =
    rw c.deref.ensures.value
    (extended_cols c.args.cols c.args.rows.now c.in_ok-listed.listed.items c.requires.columns c.in_ok-listed.ensures)

pub returns : goal.returns
returns c =
    let first = rw c.deref-2.ensures.value at c.begin_with_all.ensures in
    duals_of_tails c.args.cols c.args.rows.now c.in_ok-listed.listed.items c.in_ok-whole.whole.rows.items
    c.in_ok-whole.whole.pivots.items c.requires.columns c.in_ok-listed.ensures
    (rw c.deref.ensures.value at c.in_ok-whole.ensures.basis) (first.0 c.if-not-begin_with_all.false)
    c.in_ok-duals.duals.items (rw c.deref-3.ensures.value at c.in_ok-duals.ensures.as_many)
    (rw c.deref-3.ensures.value at c.in_ok-duals.ensures.each)
