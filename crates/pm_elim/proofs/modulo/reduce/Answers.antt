-- What the rows behind the basis say, the basis says.
use Rattle.pm_vector.specs.Rows.{HasCols}
use Rattle.pm_elim.proofs.BasisLaws.{with_cols}
use Rattle.pm_elim.proofs.modulo.reduce.Goals as goal
use Rattle.pm_elim.proofs.modulo.reduce.Goals.{After-deref-2}
use Rattle.std.proofs.Common.{ap, length, ◌∙◌, ◌≡◌}

rows_are : (c : After-deref-2) → c.deref.result.now ≡ c.args.basis.now.rows
rows_are c = c.deref.ensures.value ∙ ap (λ b. b.rows) c.basis.view_is

pivots_are : (c : After-deref-2) → c.deref-2.result.now ≡ c.args.basis.now.pivots
pivots_are c = c.deref-2.ensures.value ∙ ap (λ b. b.pivots) c.basis.view_is

pub reduce_by-requires-clause-is_basis : goal.reduce_by-requires-clause-is_basis
reduce_by-requires-clause-is_basis c =
    let cols : HasCols (length c.args.row.now) c.basis.inside.rows.items = rw (ap (λ b. b.rows) c.basis.view_is) c.requires.cols in
    rw (c.deref.ensures.value, c.deref-2.ensures.value) (with_cols (length c.args.row.now) c.basis.inside.rows.items c.basis.inside.pivots.items c.basis.invariant cols)

pub returns-clause-reduced : goal.returns-clause-reduced
returns-clause-reduced c = let here = (goal.at.returns-clause-reduced c).After-deref-2 in rw (rows_are here, pivots_are here) at c.reduce_by.ensures.reduced

pub returns-clause-zero : goal.returns-clause-zero
returns-clause-zero c = let here = (goal.at.returns-clause-zero c).After-deref-2 in rw (rows_are here, pivots_are here) at c.reduce_by.ensures.zero

pub returns-clause-direction : goal.returns-clause-direction
returns-clause-direction c = let here = (goal.at.returns-clause-direction c).After-deref-2 in rw (rows_are here) at c.reduce_by.ensures.direction

pub returns-clause-never_wide : goal.returns-clause-never_wide
returns-clause-never_wide c = let here = (goal.at.returns-clause-never_wide c).After-deref-2 in rw (rows_are here) at c.reduce_by.ensures.never_wide

pub returns-clause-wide : goal.returns-clause-wide
returns-clause-wide c = let here = (goal.at.returns-clause-wide c).After-deref-2 in rw (rows_are here) at c.reduce_by.ensures.wide

pub returns-clause-by_basis_row : goal.returns-clause-by_basis_row
returns-clause-by_basis_row c = let here = (goal.at.returns-clause-by_basis_row c).After-deref-2 in rw (rows_are here) at c.reduce_by.ensures.by_basis_row
