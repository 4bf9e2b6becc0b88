use Rattle.pm_vector.specs.Bases.{column, row_at}
use Rattle.pm_elim.proofs.BasisLaws.{row_length}
use Rattle.pm_elim.proofs.DualLaws.{contained_pivot, is_dual, pivot_contained, some_new}
use Rattle.pm_elim.proofs.duals.dual_row.Goals as goal
use Rattle.pm_elim.specs.Duals.{IfDependent, IfDualWide, dual_fail_of}
use Rattle.pm_vector.specs.EliminationSteps.{EliminationStep}
use Rattle.pm_elim.specs.Refusals.{IfWide}
use Rattle.pm_vector.specs.Evidence.{IsEvidence}
use Rattle.pm_elim.specs.declared.evidence.ElimFail.{ElimFail}
use Rattle.pm_elim.specs.declared.evidence.ElimFail.TheVariants.{Memory, Wide}
use Rattle.std.proofs.Common.{arith, refl, length, ◌<◌, ◌≡◌}
use Rattle.std.proofs.lemmas.List.{get_or_read}
use Rattle.std.proofs.lemmas.Result.{IfOk-from_err, err_from_is_err_and}

-- the refusal of an elimination, as one of dual rows
dual_wide : (f : ElimFail) (Q : EliminationStep → Type 0) → IfWide f Q → IfDualWide (dual_fail_of f) Q
dual_wide (Wide e) Q h = h
dual_wide Memory Q h = tt

never_dependent : (f : ElimFail) (Q : Type 0) → IfDependent (dual_fail_of f) Q
never_dependent (Wide e) Q = tt
never_dependent Memory Q = tt

pub unreachable-requires : goal.unreachable-requires
unreachable-requires c =
    let as_many = c.in_ok-others.ensures.null.echelon.as_many in
    let as_many' = c.requires.is_null.echelon.as_many in
    let count = c.in_ok-others.ensures.count in
    let all = rw (c.deref.ensures.value, c.deref-2.ensures.value) at c.in_default.ensures.none in
    some_new c.args.rows.now c.args.j c.requires.within c.args.cols c.args.null.now.rows.items c.args.null.now.pivots.items c.in_ok-others.others.rows.items c.in_ok-others.others.pivots.items c.requires.is_null c.in_ok-others.ensures.null (omega arith)
    (λ t l. contained_pivot c.args.null.now.pivots.items (column c.in_ok-others.others.pivots.items t) (all t (omega arith)))

pub returns-clause-dual : goal.returns-clause-dual
returns-clause-dual c =
    let as_many = c.in_ok-others.ensures.null.echelon.as_many in
    let place = c.in-Some.place in
    let within : place < length c.in_ok-others.others.rows.items = (let l = rw c.deref.ensures.value at c.in-Some.ensures.within in omega arith) in
    let found : c.remove-found.result ≡ row_at c.in_ok-others.others.rows.items place = get_or_read c.in_ok-others.others.rows.items place c.remove-found.result within c.remove-found.ensures.value _ in
    let own : c.index-rows-j.result ≡ row_at c.args.rows.now c.args.j = get_or_read c.args.rows.now c.args.j c.index-rows-j.result c.requires.within c.index-rows-j.is _ in
    let new = rw (c.deref.ensures.value, c.deref-2.ensures.value) at c.in-Some.ensures.new in
    is_dual c.args.rows.now c.args.j c.requires.within c.args.cols c.args.null.now.rows.items c.args.null.now.pivots.items c.in_ok-others.others.rows.items c.in_ok-others.others.pivots.items c.requires.is_null c.in_ok-others.ensures.null place within
    (λ p. new (pivot_contained c.args.null.now.pivots.items (column c.in_ok-others.others.pivots.items place) p))
    c.oriented.result (rw (own, found) at c.oriented.ensures)

pub oriented-requires : goal.oriented-requires
oriented-requires c =
    let rows = c.in_ok-others.others.rows.items in
    let place = c.in-Some.place in
    let echelon = c.in_ok-others.ensures.null.echelon in
    let as_many = echelon.as_many in
    let within : place < length rows = (let l = rw c.deref.ensures.value at c.in-Some.ensures.within in omega arith) in
    let found : c.remove-found.result ≡ row_at rows place = get_or_read rows place c.remove-found.result within c.remove-found.ensures.value _ in
    let own : c.index-rows-j.result ≡ row_at c.args.rows.now c.args.j = get_or_read c.args.rows.now c.args.j c.index-rows-j.result c.requires.within c.index-rows-j.is _ in
    rw (own, found, row_length c.args.cols c.args.rows.now c.args.j c.requires.columns c.requires.within, row_length c.args.cols rows place echelon.cols within) refl

pub returns-in_err-others-clause-dual : goal.returns-in_err-others-clause-dual
returns-in_err-others-clause-dual c = IfOk-from_err c.from_residual.result _ c.from_residual.ensures.0

pub returns-in_err-others-clause-wide : goal.returns-in_err-others-clause-wide
returns-in_err-others-clause-wide c =
    let p = err_from_is_err_and c.from_residual.result c.from_residual.ensures.1 in
    rw (p.1, p.2) (dual_wide c.in_err-others.field-0.0 (IsEvidence c.args.cols c.args.rows.now) c.in_err-others.ensures.wide)

pub returns-in_err-others-clause-dependent : goal.returns-in_err-others-clause-dependent
returns-in_err-others-clause-dependent c =
    let p = err_from_is_err_and c.from_residual.result c.from_residual.ensures.1 in
    rw (p.1, p.2) (never_dependent c.in_err-others.field-0.0 ⊥)
