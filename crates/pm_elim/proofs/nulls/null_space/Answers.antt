use Rattle.pm_vector.specs.EliminationSteps.{EliminationStep}
use Rattle.pm_elim.specs.Refusals.{IfWide}
use Rattle.pm_elim.specs.declared.evidence.ElimFail.{ElimFail}
use Rattle.pm_elim.specs.declared.evidence.ElimFail.TheVariants.{Memory, Wide}
use Rattle.pm_vector.specs.declared.evidence.ElimList.{ElimList}
use Rattle.pm_vector.specs.declared.evidence.ElimList.TheVariants.{Extended, Rows}
use Rattle.std.proofs.lemmas.Result.{err_from_is_err_and}
use Rattle.pm_vector.proofs.Rank.{basis_gives_rank, rank_is_determined}
use Rattle.pm_elim.proofs.EvidenceLaws.{no_evidence_on_extended, wide_is_extended_evidence}
use Rattle.pm_elim.proofs.NullLaws.{null_basis_of_span}
use Rattle.pm_elim.proofs.nulls.null_space.Goals as goal
use Rattle.std.proofs.Common.{arith, inl, inr, length, ◌≡◌, ◌⊎◌}

-- the list that the evidence names is one of the two
list_among : (f : ElimFail) (list : ElimList) → ((e : EliminationStep) → e.list ≡ list → (e.list ≡ Rows) ⊎ (e.list ≡ Extended)) → IfWide f (λ e. e.list ≡ list) → IfWide f (λ e. (e.list ≡ Rows) ⊎ (e.list ≡ Extended))
list_among (Wide e) list g h = g e h
list_among Memory list g h = tt

pub returns-clause-null : goal.returns-clause-null
returns-clause-null c = (c.in_ok-null.null.pivots.items, null_basis_of_span c.args.cols c.in_ok-basis.basis.rows.items c.args.rows.now c.in_ok-null.null.rows.items c.in_ok-null.null.pivots.items c.in_ok-basis.ensures.basis.span c.in_ok-null.ensures.null)

pub returns-clause-never_wide_extended : goal.returns-clause-never_wide_extended
returns-clause-never_wide_extended c = no_evidence_on_extended c.args.cols c.args.rows.now c.in_ok-basis.basis.rows.items c.in_ok-basis.basis.pivots.items c.in_ok-basis.ensures.basis c.in_ok-null.ensures.never_wide

pub returns-clause-nullity : goal.returns-clause-nullity
returns-clause-nullity c = λ k r.
    let b = c.in_ok-basis.ensures.basis in
    let same = rank_is_determined c.args.rows.now k (length c.in_ok-basis.basis.rows.items) r (basis_gives_rank c.args.cols c.in_ok-basis.basis.rows.items c.in_ok-basis.basis.pivots.items c.args.rows.now b.echelon.basis b.span) in
    let count = c.in_ok-null.ensures.count in
    omega arith

pub returns-in_err-basis-clause-wide : goal.returns-in_err-basis-clause-wide
returns-in_err-basis-clause-wide c = let p = err_from_is_err_and c.from_residual.result c.from_residual.ensures.1 in rw (p.1, p.2) c.in_err-basis.ensures.wide

pub returns-in_err-basis-clause-list : goal.returns-in_err-basis-clause-list
returns-in_err-basis-clause-list c = let p = err_from_is_err_and c.from_residual.result c.from_residual.ensures.1 in rw (p.1, p.2) (list_among c.in_err-basis.field-0.0 Rows (λ e same. inl same) c.in_err-basis.ensures.list)

pub returns-in_err-null-clause-wide : goal.returns-in_err-null-clause-wide
returns-in_err-null-clause-wide c = let p = err_from_is_err_and c.from_residual-in_err-null.result c.from_residual-in_err-null.ensures.1 in rw (p.1, p.2) (wide_is_extended_evidence c.args.cols c.args.rows.now c.in_ok-basis.basis.rows.items c.in_ok-basis.basis.pivots.items c.in_ok-basis.ensures.basis c.in_err-null.field-0.0 c.in_err-null.ensures.wide c.in_err-null.ensures.list)

pub returns-in_err-null-clause-list : goal.returns-in_err-null-clause-list
returns-in_err-null-clause-list c = let p = err_from_is_err_and c.from_residual-in_err-null.result c.from_residual-in_err-null.ensures.1 in rw (p.1, p.2) (list_among c.in_err-null.field-0.0 Extended (λ e same. inr same) c.in_err-null.ensures.list)

pub null_of-requires-clause-is_basis : goal.null_of-requires-clause-is_basis
null_of-requires-clause-is_basis c = c.in_ok-basis.ensures.basis.echelon

pub returns-clause-never_wide : goal.returns-clause-never_wide
returns-clause-never_wide c = c.in_ok-basis.ensures.never_wide
