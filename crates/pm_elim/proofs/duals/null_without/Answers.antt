use Rattle.pm_elim.proofs.EvidenceLaws.{err_joined, wide_is_evidence_without, wide_is_extended_evidence_without}
use Rattle.std.proofs.Common.{arith, length, ◌+◌, ◌<◌, ◌≡◌}
use Rattle.std.proofs.lemmas.List.Edits.{length-remove}
use Rattle.pm_elim.proofs.NullLaws.{null_basis_of_span}
use Rattle.pm_elim.proofs.duals.null_without.Goals as goal
use Rattle.pm_vector.specs.NullSpaces.{IsNullBasis}
use Rattle.std.proofs.lemmas.Result.{IfOk-weaker, err_from_is_err_and}
use Rattle.std.specs.Prelude.{remove}

pub returns-clause-null : goal.returns-clause-null
returns-clause-null c =
    IfOk-weaker c.null_of.result (λ v. IsNullBasis c.args.cols c.in_ok-basis.basis.rows.items v.rows.items v.pivots.items) (λ v. IsNullBasis c.args.cols (remove c.args.rows.now c.args.j) v.rows.items v.pivots.items)
    (λ v h. null_basis_of_span c.args.cols c.in_ok-basis.basis.rows.items (remove c.args.rows.now c.args.j) v.rows.items v.pivots.items (rw (c.deref.ensures.value, c.in_ok-others.ensures) at c.in_ok-basis.ensures.basis.span) h)
    c.null_of.ensures.null

pub basis_of-requires-clause-few_rows : goal.basis_of-requires-clause-few_rows
basis_of-requires-clause-few_rows c = rw (c.deref.ensures.value, c.in_ok-others.ensures) (let fewer = length-remove c.args.rows.now c.args.j c.requires.within in let few = c.requires.few_rows in omega arith)

pub returns-in_err-basis-clause-wide : goal.returns-in_err-basis-clause-wide
returns-in_err-basis-clause-wide c =
    let p = err_from_is_err_and c.from_residual-in_err-basis.result c.from_residual-in_err-basis.ensures.1 in
    let wide = rw (c.deref.ensures.value, c.in_ok-others.ensures) at c.in_err-basis.ensures.wide in
    rw (p.1, p.2) (wide_is_evidence_without c.args.cols c.args.rows.now c.args.j c.requires.within c.in_err-basis.field-0.0 wide c.in_err-basis.ensures.list)

pub returns-clause-count : goal.returns-clause-count
returns-clause-count c =
    let others : length c.deref.result.now + 1 ≡ length c.args.rows.now = rw (c.deref.ensures.value, c.in_ok-others.ensures) (length-remove c.args.rows.now c.args.j c.requires.within) in
    let few = c.in_ok-basis.ensures.count in
    let whole = c.in_ok-basis.basis.rows.ok.0 in
    IfOk-weaker c.null_of.result (λ v. length v.rows.items + length c.in_ok-basis.basis.rows.items ≡ c.args.cols) (λ v. c.args.cols < length v.rows.items + length c.args.rows.now)
    (λ v h. omega arith)
    c.null_of.ensures.count

pub returns-clause-wide : goal.returns-clause-wide
returns-clause-wide c =
    err_joined c.null_of.result _ _ _
    (λ f w l. wide_is_extended_evidence_without c.args.cols c.args.rows.now c.args.j c.requires.within c.in_ok-basis.basis.rows.items c.in_ok-basis.basis.pivots.items (rw (c.deref.ensures.value, c.in_ok-others.ensures) at c.in_ok-basis.ensures.basis) f w l)
    c.null_of.ensures.wide c.null_of.ensures.list

pub null_of-requires-clause-is_basis : goal.null_of-requires-clause-is_basis
null_of-requires-clause-is_basis c = c.in_ok-basis.ensures.basis.echelon
