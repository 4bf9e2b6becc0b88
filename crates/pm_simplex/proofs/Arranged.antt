-- What a pivot by the ratio test keeps of the last rows and of residuals in the basis.
use Rattle.pm_vector.specs.Rows.{Row}
use Rattle.pm_vector.specs.Bases.{column}
use Rattle.pm_programs.specs.Dictionaries.{at}
use Rattle.pm_simplex.proofs.Layouts.{basis_other, basis_own, count_P, settled_next}
use Rattle.pm_simplex.proofs.Steps.{not_signed_objective}
use Rattle.pm_simplex.specs.Comparisons.{rows_of}
use Rattle.pm_simplex.specs.Running.{IsArranged, IsFreeColumn, IsLaidOut, IsPivotOf, IsResidualColumn, IsSlackColumn, IsState, IsWithoutHelp}
use Rattle.pm_simplex.specs.States.{auxiliary, is_signed}
use Rattle.pm_simplex.specs.declared.dictionary.Dictionary.{Dictionary}
use Rattle.pm_simplex.specs.declared.layout.Layout.{Layout}
use Rattle.std.proofs.Common.{ap, arith, inl, inr, subst, sym, ◌∙◌}
use Rattle.std.specs.Prelude.{Bool, IsTrue, List, length, true, ℕ, ◌+◌, ◌<◌, ◌≡◌, ◌⊎◌}
use lib.IntN.{pos}
use native.Mathlib.Decide.{ℕ_discrete}

module _ (y : Layout) (S : List Row) (d d' : Dictionary) (l j : ℕ) (h : IsLaidOut y S d) (ll : l < length d.basis.items) (lj : j < length d.others.items) (nz : ¬ ((at (rows_of d) l j).num ≡ pos 0)) (later : 0 < column d.others.items j) (pv : IsPivotOf d l j d') where
  pub arranged_next : IsTrue (is_signed y (column d.basis.items l)) → ¬ (IsResidualColumn y (column d.others.items j)) → IsArranged y d → IsArranged y d'
  arranged_next si nr a = record {
    count = count_P y S d d' l j h ll lj nz later pv ∙ a.count;
    objective = basis_other y S d d' l j h ll lj nz later pv (y.slacks + y.residuals) (stays (y.slacks + y.residuals) (let e = a.objective in omega arith)) ∙ a.objective;
    phase = basis_other y S d d' l j h ll lj nz later pv (y.slacks + y.residuals + 1) (stays (y.slacks + y.residuals + 1) (let e = a.phase in omega arith)) ∙ a.phase;
    settled = λ i li r.
        let li' : i < length d.basis.items = (let e = count_P y S d d' l j h ll lj nz later pv in omega arith) in
        elim (ℕ_discrete i l) [
          | yes q ↦ absurd (nr (subst (λ c. IsResidualColumn y c) (ap (column d'.basis.items) q ∙ basis_own y S d d' l j h ll lj nz later pv) r))
          | no n ↦ settled_next y S d d' l j h ll lj nz later pv i li' n nr (a.settled i li' (subst (λ c. IsResidualColumn y c) (basis_other y S d d' l j h ll lj nz later pv i n) r))
        ];
  }
    where
      stays : (z : ℕ) → auxiliary y < column d.basis.items z → ¬ (z ≡ l)
      stays z o q = not_signed_objective y (column d.basis.items z) o (subst (λ c. IsTrue (is_signed y c)) (ap (column d.basis.items) (sym q)) si)

  pub without_next : ¬ (column d.others.items j ≡ auxiliary y) → IsWithoutHelp y d → IsWithoutHelp y d'
  without_next n w = record {
    absent = λ i li e. elim (ℕ_discrete i l) [
      | yes q ↦ n (sym (ap (column d'.basis.items) q ∙ basis_own y S d d' l j h ll lj nz later pv) ∙ e)
      | no ni ↦ w.absent i (let e = count_P y S d d' l j h ll lj nz later pv in omega arith) (sym (basis_other y S d d' l j h ll lj nz later pv i ni) ∙ e)
    ];
  }

-- a variable that may enter is no residual, and not the auxiliary one
pub enters_no_residual : (y : Layout) (c : ℕ) (up : Bool) → (IsFreeColumn y c ⊎ (IsSlackColumn y c × (up ≡ true))) → ¬ (IsResidualColumn y c)
enters_no_residual y c up (inl f) r = let a = f.1 in let b = r.0 in omega arith
enters_no_residual y c up (inr s) r = let a = s.0.1 in let b = r.0 in omega arith

pub enters_no_help : (y : Layout) (c : ℕ) (up : Bool) → (IsFreeColumn y c ⊎ (IsSlackColumn y c × (up ≡ true))) → ¬ (c ≡ auxiliary y)
enters_no_help y c up (inl f) r = let a = f.1 in omega arith
enters_no_help y c up (inr s) r = let a = s.0.1 in omega arith

-- the other objective
pub at_objective : (y : Layout) (S : List Row) (d : Dictionary) (z : ℕ) → IsState y S d z → IsArranged y d → IsState y S d (y.slacks + y.residuals)
at_objective y S d z st a = record { shaped = st.shaped; apart = st.apart; dictionary = st.dictionary; feasible = st.feasible; fits = st.fits; some = st.some; constant = st.constant; within = (let e = a.count in omega arith); objective = (let e = a.objective in omega arith) }
