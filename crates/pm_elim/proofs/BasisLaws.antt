-- The echelon basis of the first rows, and that no step so far left the range.
use Rattle.pm_vector.specs.Rows.{HasCols, Row}
use Rattle.pm_vector.proofs.Lists.{all_at}
use Rattle.pm_vector.proofs.Spans.{at_place, same_span_refl, same_span_sym, same_span_trans}
use Rattle.pm_vector.proofs.Unique.{echelon_is_unique}
use Rattle.pm_vector.specs.Bases.{IsEchelonBasis, SameSpan, row_at}
use Rattle.pm_elim.proofs.RoundLaws.{span_with_row}
use Rattle.pm_elim.specs.Bases.{IsSomeEchelonBasis}
use Rattle.pm_elim.specs.Refusals.{IfWide, IfWideStep, IsFailOf, TellsOf}
use Rattle.pm_vector.specs.Evidence.{IsBasisOf, IsWideRound, IsWideStep}
use Rattle.pm_vector.specs.EliminationSteps.{EliminationStep}
use Rattle.pm_elim.specs.declared.evidence.ElimFail.{ElimFail}
use Rattle.pm_elim.specs.declared.evidence.ElimFail.TheVariants.{Memory, Wide}
use Rattle.pm_vector.specs.declared.evidence.ElimList.{ElimList}
use Rattle.pm_elim.specs.declared.refusal.Refusal.{Refusal}
use Rattle.pm_elim.specs.declared.refusal.Refusal.TheVariants.{Memory as StepMemory, Wide as StepWide}
use Rattle.pm_elim.specs.declared.refusal.WideStep.{WideStep}
use Rattle.std.proofs.Common.{arith, inl, inr, refl, subst}
use Rattle.std.proofs.Math.Seq.{take-length}
use Rattle.std.proofs.lemmas.Bool.{cases_lt}
use Rattle.std.proofs.lemmas.List.{take_more}
use Rattle.std.specs.Prelude.{List, [], length, take, ℕ, ◌++◌, ◌+◌, ◌<◌, ◌∷◌, ◌≡◌, ◌≤◌, ◌^◌}

pub row_length : (n : ℕ) (X : List Row) (i : ℕ) → HasCols n X → i < length X → length (row_at X i) ≡ n
row_length n X i h l = all_at (λ (x : Row). length x ≡ n) (at_place X i l) h

-- two echelon bases of one list are equal
pub basis_unique : (n : ℕ) (X B B' : List Row) (P P' : List ℕ) → IsBasisOf n X B P → IsBasisOf n X B' P' → (B ≡ B') × (P ≡ P')
basis_unique n X B B' P P' b b' = echelon_is_unique n B B' P P' b.echelon b'.echelon (same_span_trans b.span (same_span_sym b'.span))

pub round_by : (B : List Row) (P : List ℕ) (next part : Row) (by i : ℕ) → IsWideRound B P next part by i → by ≤ length B
round_by B P next part by i (inl w) = let l = w.within in omega arith
round_by B P next part by i (inr w) = let l = w.wide.last in omega arith

pub empty_basis : (n : ℕ) → IsEchelonBasis n [] []
empty_basis n = record {
  basis = record { cols = tt; as_many = refl; positive = λ i l. absurd (omega arith); reduced = λ i j l m ne. absurd (omega arith); primitive = λ i l. absurd (omega arith) };
  ascending = λ i j l m. absurd (omega arith);
  before = λ i c l m. absurd (omega arith);
}

pub record BasisSoFar (n : ℕ) (X : List Row) (i : ℕ) (B : List Row) (P : List ℕ) : Type 0 where
  pub basis : IsBasisOf n (take i X) B P
  pub never_wide : (e : EliminationStep) → e.front < i → IsWideStep n X e → ⊥

pub BasisSoFar-none : (n : ℕ) (X : List Row) → BasisSoFar n X 0 [] []
BasisSoFar-none n X = record { basis = record { echelon = empty_basis n; span = same_span_refl [] }; never_wide = λ e l w. absurd (omega arith) }

pub BasisSoFar-whole : (n : ℕ) (X : List Row) (i : ℕ) (B : List Row) (P : List ℕ) → BasisSoFar n X i B P → i ≡ length X → IsBasisOf n X B P
BasisSoFar-whole n X i B P s all = rw (all, take-length) at s.basis

module _ (n : ℕ) (X : List Row) (i : ℕ) (B : List Row) (P : List ℕ) (so_far : BasisSoFar n X i B P) (within : i < length X) where
  -- the evidence of this round speaks of this basis
  this_round : ((part : Row) (by c : ℕ) → IsWideRound B P (row_at X i) part by c → ⊥) → (e : EliminationStep) → e.front ≡ i → IsWideStep n X e → ⊥
  this_round never e here w =
      let (same_rows, same_columns) = basis_unique n (take i X) e.basis B w.pivots P (subst (λ (k : ℕ). IsBasisOf n (take k X) e.basis w.pivots) here w.basis) so_far.basis in
      never e.part e.by e.column (rw (here, same_rows, same_columns) at w.step)

  pub BasisSoFar-more : (B' : List Row) (P' : List ℕ) → IsEchelonBasis n B' P' → SameSpan B' (B ++ row_at X i ∷ []) → ((part : Row) (by c : ℕ) → IsWideRound B P (row_at X i) part by c → ⊥) → BasisSoFar n X (i + 1) B' P'
  BasisSoFar-more B' P' e s never = record {
    basis = record { echelon = e; span = rw (take_more X i [] within) (same_span_trans s (span_with_row B (take i X) (row_at X i) so_far.basis.span)) };
    never_wide = λ v l w. elim (cases_lt v.front i) [
      | inl less ↦ so_far.never_wide v less w
      | inr more ↦ this_round never v (omega arith) w
    ];
  }

-- ---- the refusal
module _ (n : ℕ) (X : List Row) (i : ℕ) (B : List Row) (P : List ℕ) (so_far : BasisSoFar n X i B P) (within : i < length X) where
  wide_step : (list : ElimList) (s : WideStep) (e : EliminationStep) → IsWideRound B P (row_at X i) s.part s.by s.column → TellsOf s list i B e → IsWideStep n X e
  wide_step list s e w t = record {
    pivots = P;
    within = (let f = t.front_is in omega arith);
    basis = rw (t.front_is, t.basis) so_far.basis;
    step = rw (t.front_is, t.basis, t.part, t.by_is, t.column_is) w;
  }

  pub fail_is_wide : (list : ElimList) (r : Refusal) (f : ElimFail) (B' : List Row) → IfWideStep r (λ s. IsWideRound B P (row_at X i) s.part s.by s.column) → IfWideStep r (λ s. B' ≡ B) → IsFailOf r list i B' f → IfWide f (λ e. IsWideStep n X e)
  fail_is_wide list (StepWide s) (Wide e) B' w u t = wide_step list s e w (rw u at t)
  fail_is_wide list (StepWide s) Memory B' w u t = tt
  fail_is_wide list StepMemory (Wide e) B' w u t = absurd t
  fail_is_wide list StepMemory Memory B' w u t = tt

pub fail_list : (list : ElimList) (r : Refusal) (f : ElimFail) (i : ℕ) (B : List Row) → IsFailOf r list i B f → IfWide f (λ e. e.list ≡ list)
fail_list list (StepWide s) (Wide e) i B t = t.list_is
fail_list list (StepWide s) Memory i B t = tt
fail_list list StepMemory (Wide e) i B t = absurd t
fail_list list StepMemory Memory i B t = tt

pub small_step : (n : ℕ) (B : List Row) (P : List ℕ) (next : Row) (r : Refusal) → length B < 2 ^ 32 → n < 2 ^ 32 → IfWideStep r (λ s. IsWideRound B P next s.part s.by s.column) → IfWideStep r (λ s. s.column < n) → IfWideStep r (λ s. (s.by < 2 ^ 32) × (s.column < 2 ^ 32))
small_step n B P next (StepWide s) few m w l = (let k = round_by B P next s.part s.by s.column w in omega arith, omega arith)
small_step n B P next StepMemory few m w l = tt

-- a basis of some rows, whose number of entries is known another way (where there is no row, any number is right)
pub with_cols : (n : ℕ) (R : List Row) (P : List ℕ) → IsSomeEchelonBasis R P → HasCols n R → IsEchelonBasis n R P
with_cols n R P e cols = record {
  basis = record { cols = cols; as_many = e.1.as_many; positive = e.1.positive; reduced = e.1.reduced; primitive = e.1.primitive };
  ascending = e.1.ascending;
  before = e.1.before;
}
