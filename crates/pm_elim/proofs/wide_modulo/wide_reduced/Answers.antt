use Rattle.pm_vector.specs.Rows.{HasCols}
use Rattle.pm_vector.specs.Bases.{IsEchelonBasis}
use Rattle.pm_elim.proofs.BasisLaws.{with_cols}
use Rattle.pm_elim.proofs.ReductionLaws.{reduced_modulo, reduced_zero}
use Rattle.pm_elim.proofs.wide_modulo.wide_reduced.Goals as goal
use Rattle.pm_elim.proofs.wide_modulo.wide_reduced.Goals.{After-deref-2, In_ok-rest}
use Rattle.pm_vector.specs.Steps.{ReducedBy}
use Rattle.std.proofs.Common.{ap, length}

-- the basis has as many entries in a row as the row
is_basis : (c : After-deref-2) → IsEchelonBasis (length c.args.row.now) c.basis.inside.rows.items c.basis.inside.pivots.items
is_basis c =
    let cols : HasCols (length c.args.row.now) c.basis.inside.rows.items = rw (ap (λ b. b.rows) c.basis.view_is) c.requires in
    with_cols (length c.args.row.now) c.basis.inside.rows.items c.basis.inside.pivots.items c.basis.invariant cols

pub reduced_in_turn-requires : goal.reduced_in_turn-requires
reduced_in_turn-requires c = rw (c.deref.ensures.value, c.deref-2.ensures.value) (is_basis c)

reduced : (c : In_ok-rest) → ReducedBy c.basis.inside.rows.items c.basis.inside.pivots.items c.args.row.now c.in_ok-rest.rest
reduced c = rw (c.deref.ensures.value, c.deref-2.ensures.value) at c.in_ok-rest.ensures.reduced

pub returns-clause-zero : goal.returns-clause-zero
returns-clause-zero c =
    let here = (goal.at.returns-clause-zero c).In_ok-rest in
    let b = is_basis (goal.at.returns-clause-zero c).After-deref-2 in
    rw (ap (λ b. b.rows) c.basis.view_is, ap (λ b. b.pivots) c.basis.view_is) at (reduced_zero c.basis.inside.rows.items c.basis.inside.pivots.items c.args.row.now c.in_ok-rest.rest b.reduced (reduced here))

pub returns-clause-direction : goal.returns-clause-direction
returns-clause-direction c =
    let here = (goal.at.returns-clause-direction c).In_ok-rest in
    rw (ap (λ b. b.rows) c.basis.view_is) at (reduced_modulo c.basis.inside.rows.items c.basis.inside.pivots.items c.args.row.now c.in_ok-rest.rest (reduced here))
