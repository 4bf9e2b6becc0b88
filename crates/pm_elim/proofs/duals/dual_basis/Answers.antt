use Rattle.pm_vector.specs.Cones.{IsIndependent}
use Rattle.pm_elim.proofs.EvidenceLaws.{wide_is_extended_evidence}
use Rattle.pm_elim.specs.Refusals.{IfWide}
use Rattle.pm_vector.specs.Evidence.{IsEvidence}
use Rattle.pm_vector.specs.EliminationSteps.{EliminationStep}
use Rattle.pm_elim.specs.declared.evidence.DualFail.{DualFail}
use Rattle.pm_elim.specs.declared.evidence.DualFail.TheVariants.{Dependent, Memory as DualMemory, Wide as DualWide}
use Rattle.pm_elim.specs.declared.evidence.ElimFail.{ElimFail}
use Rattle.pm_elim.specs.declared.evidence.ElimFail.TheVariants.{Memory, Wide}
use Rattle.std.proofs.lemmas.Result.{err_from_is_err_and}
use Rattle.pm_elim.proofs.DualLaws.{dependent_of_fewer, duals_more, independent_of_duals}
use Rattle.pm_elim.proofs.NullLaws.{null_basis_of_span}
use Rattle.pm_elim.proofs.duals.dual_basis.Goals as goal
use Rattle.pm_elim.proofs.duals.dual_basis.Goals.{After-drop-basis-3}
use Rattle.pm_elim.specs.Duals.{IfDependent, IfDualWide, IsDualBasis, dual_fail_of}
use Rattle.std.proofs.Common.{ap, arith, length, refl, ◌+◌, ◌≡◌, ◌∙◌, ℕ}
use Rattle.std.proofs.lemmas.List.{length_push}

-- ---- refusals
wide_as_dual : (f : ElimFail) (Q : EliminationStep → Type 0) → IfWide f Q → IfDualWide (dual_fail_of f) Q
wide_as_dual (Wide e) Q w = w
wide_as_dual Memory Q w = tt

never_dependent : (f : ElimFail) (Q : Type 0) → IfDependent (dual_fail_of f) Q
never_dependent (Wide e) Q = tt
never_dependent Memory Q = tt

dependent_of_none : (f : DualFail) (Q : Type 0) → IfDependent f ⊥ → IfDependent f Q
dependent_of_none Dependent Q h = absurd h
dependent_of_none (DualWide e) Q h = tt
dependent_of_none DualMemory Q h = tt

-- ---- the goals
pub returns-then-len-rows-clause-dual : goal.returns-then-len-rows-clause-dual
returns-then-len-rows-clause-dual c = tt

pub returns-then-len-rows-clause-independent : goal.returns-then-len-rows-clause-independent
returns-then-len-rows-clause-independent c = tt

pub returns-then-len-rows-clause-dependent : goal.returns-then-len-rows-clause-dependent
returns-then-len-rows-clause-dependent c =
    let count = c.len.ensures in
    let whole = c.in_ok-basis.basis.rows.ok.0 in
    dependent_of_fewer c.args.cols c.args.rows.now c.in_ok-basis.basis.rows.items c.in_ok-basis.basis.pivots.items c.in_ok-basis.ensures.basis (omega arith)

pub dual_row-requires-clause-count : goal.dual_row-requires-clause-count
dual_row-requires-clause-count c =
    let independent = c.len.ensures in
    let null = c.in_ok-null.ensures.count in
    omega arith

pub dual_row-requires-clause-is_null : goal.dual_row-requires-clause-is_null
dual_row-requires-clause-is_null c = null_basis_of_span c.args.cols c.in_ok-basis.basis.rows.items c.args.rows.now c.in_ok-null.null.rows.items c.in_ok-null.null.pivots.items c.in_ok-basis.ensures.basis.span c.in_ok-null.ensures.null

pub loop-j-preserved : goal.loop-j-preserved
loop-j-preserved c =
    let so_far = c.loop-j.invariant.as_many in
    rw c.in_ok-push.ensures.items (record {
      as_many = length_push c.loop-j.duals.items c.in_ok-dual.dual ∙ ap (λ (k : ℕ). k + 1) so_far;
      each = duals_more c.args.cols c.args.rows.now c.in_ok-null.null.pivots.items c.loop-j.duals.items c.in_ok-dual.dual c.loop-j.j so_far c.loop-j.invariant.each c.in_ok-dual.ensures.dual;
    })

is_dual_basis : (c : After-drop-basis-3) → IsDualBasis c.args.cols c.args.rows.now c.loop-j.duals.items
is_dual_basis c =
    let so_far = c.loop-j.invariant.as_many in
    let all : c.loop-j.j ≡ length c.args.rows.now = omega arith in
    record {
      null = c.in_ok-null.null.rows.items;
      pivots = c.in_ok-null.null.pivots.items;
      null_basis = null_basis_of_span c.args.cols c.in_ok-basis.basis.rows.items c.args.rows.now c.in_ok-null.null.rows.items c.in_ok-null.null.pivots.items c.in_ok-basis.ensures.basis.span c.in_ok-null.ensures.null;
      as_many = so_far ∙ all;
      each = λ j l. c.loop-j.invariant.each j (omega arith);
    }

pub returns-clause-dual : goal.returns-clause-dual
returns-clause-dual c = is_dual_basis (goal.at.returns-clause-dual c).After-drop-basis-3

pub returns-clause-independent : goal.returns-clause-independent
returns-clause-independent c = independent_of_duals c.args.cols c.args.rows.now c.loop-j.duals.items (is_dual_basis (goal.at.returns-clause-independent c).After-drop-basis-3)

pub null_of-requires-clause-is_basis : goal.null_of-requires-clause-is_basis
null_of-requires-clause-is_basis c = c.in_ok-basis.ensures.basis.echelon

pub returns-in_err-basis-clause-wide : goal.returns-in_err-basis-clause-wide
returns-in_err-basis-clause-wide c =
    let p = err_from_is_err_and c.from_residual.result c.from_residual.ensures.1 in
    rw (p.1, p.2) (wide_as_dual c.in_err-basis.field-0.0 (λ e. IsEvidence c.args.cols c.args.rows.now e) c.in_err-basis.ensures.wide)

pub returns-in_err-basis-clause-dependent : goal.returns-in_err-basis-clause-dependent
returns-in_err-basis-clause-dependent c =
    let p = err_from_is_err_and c.from_residual.result c.from_residual.ensures.1 in
    rw (p.1, p.2) (never_dependent c.in_err-basis.field-0.0 (¬ (IsIndependent c.args.rows.now)))

pub returns-in_err-null-clause-wide : goal.returns-in_err-null-clause-wide
returns-in_err-null-clause-wide c =
    let p = err_from_is_err_and c.from_residual-in_err-null.result c.from_residual-in_err-null.ensures.1 in
    rw (p.1, p.2) (wide_as_dual c.in_err-null.field-0.0 (λ e. IsEvidence c.args.cols c.args.rows.now e)
    (wide_is_extended_evidence c.args.cols c.args.rows.now c.in_ok-basis.basis.rows.items c.in_ok-basis.basis.pivots.items c.in_ok-basis.ensures.basis c.in_err-null.field-0.0 c.in_err-null.ensures.wide c.in_err-null.ensures.list))

pub returns-in_err-null-clause-dependent : goal.returns-in_err-null-clause-dependent
returns-in_err-null-clause-dependent c =
    let p = err_from_is_err_and c.from_residual-in_err-null.result c.from_residual-in_err-null.ensures.1 in
    rw (p.1, p.2) (never_dependent c.in_err-null.field-0.0 (¬ (IsIndependent c.args.rows.now)))

pub returns-in_err-dual-clause-wide : goal.returns-in_err-dual-clause-wide
returns-in_err-dual-clause-wide c =
    let p = err_from_is_err_and c.from_residual-in_err-dual.result c.from_residual-in_err-dual.ensures.1 in
    rw (p.1, p.2) c.in_err-dual.ensures.wide

pub returns-in_err-dual-clause-dependent : goal.returns-in_err-dual-clause-dependent
returns-in_err-dual-clause-dependent c =
    let p = err_from_is_err_and c.from_residual-in_err-dual.result c.from_residual-in_err-dual.ensures.1 in
    rw (p.1, p.2) (dependent_of_none c.in_err-dual.field-0.0 (¬ (IsIndependent c.args.rows.now)) c.in_err-dual.ensures.dependent)

pub returns-in_err-push-clause-wide : goal.returns-in_err-push-clause-wide
returns-in_err-push-clause-wide c =
    let p = err_from_is_err_and c.from_residual-in_err-push.result c.from_residual-in_err-push.ensures.1 in
    rw (p.1, p.2) tt

pub returns-in_err-push-clause-dependent : goal.returns-in_err-push-clause-dependent
returns-in_err-push-clause-dependent c =
    let p = err_from_is_err_and c.from_residual-in_err-push.result c.from_residual-in_err-push.ensures.1 in
    rw (p.1, p.2) tt

pub dual_row-requires-clause-within : goal.dual_row-requires-clause-within
dual_row-requires-clause-within c = c.loop-j-test.true

pub loop-j-init : goal.loop-j-init
loop-j-init c = rw c.new-duals.ensures.items (record { as_many = refl; each = λ i l. absurd (omega arith) })

pub returns-in-Some-clause-independent : goal.returns-in-Some-clause-independent
returns-in-Some-clause-independent c = independent_of_duals c.args.cols c.args.rows.now c.in-Some.duals.items (rw c.in-Some.is at c.in_ok-duals.ensures)
