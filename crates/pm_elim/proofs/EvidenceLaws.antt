-- Evidence is a step of the elimination of the list that it names.
use Rattle.pm_vector.specs.Rows.{Row}
use Rattle.pm_elim.proofs.BasisLaws.{basis_unique}
use Rattle.pm_elim.specs.Refusals.{IfWide}
use Rattle.pm_vector.specs.Evidence.{IsBasisOf, IsEvidence, IsExtendedListOf, IsWideStep, Lists, NoEvidence}
use Rattle.pm_elim.specs.ExtendedLists.{IsWideOnExtended}
use Rattle.pm_vector.specs.EliminationSteps.{EliminationStep}
use Rattle.pm_elim.specs.declared.evidence.ElimFail.{ElimFail}
use Rattle.pm_elim.specs.declared.evidence.ElimFail.TheVariants.{Memory, Wide}
use Rattle.pm_vector.specs.declared.evidence.ElimList.TheVariants.{Extended, ExtendedWithout, Rows, Without}
use Rattle.std.proofs.Common.{OnOk, refl, subst, sym}
use Rattle.std.specs.Prelude.{Err, IfErr, List, Ok, Result, length, remove, ℕ, ◌+◌, ◌<◌, ◌≡◌}

module _ (n : ℕ) (X : List Row) where
  pub evidence_on_rows : (e : EliminationStep) → IsWideStep n X e → e.list ≡ Rows → IsEvidence n X e
  evidence_on_rows e w l = record { cols = n; listed = X; list = subst (λ list. Lists n X list n X) (sym l) (refl, refl); step = w }

  pub step_on_rows : (e : EliminationStep) → e.list ≡ Rows → IsEvidence n X e → IsWideStep n X e
  step_on_rows e l v =
      let named : (v.cols ≡ n) × (v.listed ≡ X) = subst (λ list. Lists n X list v.cols v.listed) l v.list in
      rw (named.0, named.1) at v.step

  pub no_evidence_on_rows : ((e : EliminationStep) → IsWideStep n X e → ⊥) → NoEvidence n X Rows
  no_evidence_on_rows never e l v = never e (step_on_rows e l v)

  pub wide_is_evidence : (f : ElimFail) → IfWide f (λ e. IsWideStep n X e) → IfWide f (λ e. e.list ≡ Rows) → IfWide f (λ e. IsEvidence n X e)
  wide_is_evidence (Wide e) w l = evidence_on_rows e w l
  wide_is_evidence Memory w l = tt

-- ---- the other lists
module _ (n : ℕ) (X B : List Row) (P : List ℕ) (b : IsBasisOf n X B P) where
  extended_list_of : (e : EliminationStep) → (w : IsWideOnExtended n B e) → IsExtendedListOf n X (length B + n) w.listed
  extended_list_of e w = record { basis = B; pivots = P; is_basis = b; extended = w.extended; cols = refl }

  pub evidence_on_extended : (e : EliminationStep) → IsWideOnExtended n B e → e.list ≡ Extended → IsEvidence n X e
  evidence_on_extended e w l = record { cols = length B + n; listed = w.listed; list = subst (λ list. Lists n X list (length B + n) w.listed) (sym l) (extended_list_of e w); step = w.step }

  pub wide_is_extended_evidence : (f : ElimFail) → IfWide f (λ e. IsWideOnExtended n B e) → IfWide f (λ e. e.list ≡ Extended) → IfWide f (λ e. IsEvidence n X e)
  wide_is_extended_evidence (Wide e) w l = evidence_on_extended e w l
  wide_is_extended_evidence Memory w l = tt

  pub no_evidence_on_extended : ((e : EliminationStep) → IsWideOnExtended n B e → ⊥) → NoEvidence n X Extended
  no_evidence_on_extended never e l v =
      let named : IsExtendedListOf n X v.cols v.listed = subst (λ list. Lists n X list v.cols v.listed) l v.list in
      let same = (basis_unique n X named.basis B named.pivots P named.is_basis b).0 in
      never e (record { listed = v.listed; extended = rw same at named.extended; step = rw (named.cols, same) at v.step })

module _ (n : ℕ) (X : List Row) (j : ℕ) (within : j < length X) where
  pub wide_is_evidence_without : (f : ElimFail) → IfWide f (λ e. IsWideStep n (remove X j) e) → IfWide f (λ e. e.list ≡ Without j) → IfWide f (λ e. IsEvidence n X e)
  wide_is_evidence_without (Wide e) w l = record { cols = n; listed = remove X j; list = subst (λ list. Lists n X list n (remove X j)) (sym l) (within, refl, refl); step = w }
  wide_is_evidence_without Memory w l = tt

  module _ (B : List Row) (P : List ℕ) (b : IsBasisOf n (remove X j) B P) where
    pub wide_is_extended_evidence_without : (f : ElimFail) → IfWide f (λ e. IsWideOnExtended n B e) → IfWide f (λ e. e.list ≡ ExtendedWithout j) → IfWide f (λ e. IsEvidence n X e)
    wide_is_extended_evidence_without (Wide e) w l = record {
      cols = length B + n;
      listed = w.listed;
      list = subst (λ list. Lists n X list (length B + n) w.listed) (sym l) (within, extended_list_of n (remove X j) B P b e w);
      step = w.step;
    }
    wide_is_extended_evidence_without Memory w l = tt

-- ---- results
pub on_ok_weaker : {T E : Type 0} (r : Result T E) (P Q : Type 0) → (P → Q) → OnOk r P → OnOk r Q
on_ok_weaker (Ok x) P Q f h = f h
on_ok_weaker (Err e) P Q f h = tt

pub err_joined : {T E : Type 0} (r : Result T E) (P Q R : E → Type 0) → ((e : E) → P e → Q e → R e) → IfErr r P → IfErr r Q → IfErr r R
err_joined (Ok x) P Q R f h k = tt
err_joined (Err e) P Q R f h k = f e h k
