-- Combinations of the rows of a reduced basis, read at the pivot columns.
use Rattle.pm_vector.proofs.ConeLaws.{combination_none, in_same}
use Rattle.pm_vector.proofs.Lists.{all_at}
use Rattle.pm_vector.proofs.Ring.{ring}
use Rattle.pm_vector.proofs.RowLaws.{entry-difference, entry-plus, entry-times}
use Rattle.pm_vector.proofs.Signs.{mul_cancel, mul_pos}
use Rattle.pm_vector.specs.Cones.{InSpan, combination}
use Rattle.pm_vector.specs.Rows.{IsZero, Row, difference, entry}
use Rattle.pm_vector.proofs.Spans.{at_place, span_difference, span_divide}
use Rattle.pm_vector.specs.Bases.{IsEchelonBasis, IsReducedBasis, column, row_at}
use Rattle.pm_vector.specs.Laws.{BasisIsIndependent, ZeroByColumns}
use Rattle.std.proofs.Common.{ap, arith, inl, inr, refl, sym, ◌∙◌}
use Rattle.std.proofs.lemmas.Int.{ints}
use Rattle.std.specs.Prelude.{List, [], length, slice_index_or, suc, zero, ℕ, ◌↔◌, ◌<◌, ◌∷◌, ◌≡◌, ◌⊎◌}
use lib.IntN.{pos, ℤ, ◌*ℤ◌}
use lib.Signed.{◌<ℤ◌}
use native.Mathlib.Decide.{dec_lt, ℕ_discrete}

unfoldable pub coefficient : List ℤ → ℕ → ℤ
coefficient d j = slice_index_or d j (pos 0)

-- each term is 0 in the column
pub combination_zero : (d : List ℤ) (R : List Row) (c : ℕ) → ((k : ℕ) → k < length R → (coefficient d k ≡ pos 0) ⊎ (entry (row_at R k) c ≡ pos 0)) → entry (combination d R) c ≡ pos 0
unfolding coefficient
combination_zero [] R c f = refl
combination_zero (k ∷ d) [] c f = refl
combination_zero (k ∷ d) (r ∷ R) c f =
    let h = combination_zero d R c (λ i li. f (suc i) (omega arith)) in
    elim (f 0 (omega arith)) [ inl e ↦ simp (entry-plus, entry-times, h, e, ring) | inr e ↦ simp (entry-plus, entry-times, h, e, ring) ]

-- at most the row at j is not 0 in the column
pub combination_at : (d : List ℤ) (R : List Row) (c j : ℕ) → j < length R → ((k : ℕ) → k < length R → ¬ (k ≡ j) → entry (row_at R k) c ≡ pos 0) → entry (combination d R) c ≡ coefficient d j *ℤ entry (row_at R j) c
unfolding coefficient
combination_at d [] c j l f = absurd (omega arith)
combination_at [] (r ∷ R) c j l f = simp ring
combination_at (k ∷ d) (r ∷ R) c zero l f =
    let z : entry (combination d R) c ≡ pos 0 = combination_zero d R c (λ i li. inr (f (suc i) (omega arith) (λ e. omega arith))) in
    simp (entry-plus, entry-times, z) (omega (arith, ints))
combination_at (k ∷ d) (r ∷ R) c (suc j) l f =
    let z = f 0 (omega arith) (λ e. omega arith) in
    let h = combination_at d R c j (omega arith) (λ i li ne. f (suc i) (omega arith) (λ e. ne (omega arith))) in
    simp (entry-plus, entry-times, z, h, ring) (omega (arith, ints))

span_entry : (R : List Row) (x : Row) → (h : InSpan R x) → (c : ℕ) → h.m *ℤ entry x c ≡ entry (combination h.d R) c
span_entry R x h c = let q = simp (entry-times, entry-plus, combination_none) at (h.same.at c) in omega (arith, ints)

find_column : (m : ℕ) (P : List ℕ) (c : ℕ) → ((j : ℕ) × (j < m) × (column P j ≡ c)) ⊎ ((j : ℕ) → j < m → ¬ (column P j ≡ c))
find_column zero P c = inr (λ j l e. omega arith)
find_column (suc m) P c = elim (ℕ_discrete (column P m) c) [
  | yes e ↦ inl (m, omega arith, e)
  | no ne ↦ elim (find_column m P c) [
    | inl w ↦ inl (w.0, (let l = w.1 in omega arith), w.2)
    | inr f ↦ inr (λ j l. elim (ℕ_discrete j m) [ yes e ↦ (λ g. ne (ap (column P) (sym e) ∙ g)) | no nj ↦ f j (omega arith) ])
  ]
]

module _ (n : ℕ) (R : List Row) (P : List ℕ) (e : IsReducedBasis n R P) where
  -- a combination is read at the columns
  coefficient_of : (d : List ℤ) (j : ℕ) → j < length R → entry (combination d R) (column P j) ≡ coefficient d j *ℤ entry (row_at R j) (column P j)
  coefficient_of d j l = combination_at d R (column P j) j l (λ k lk ne. e.reduced k j lk l ne)

  zero_coefficient : (d : List ℤ) (j : ℕ) → j < length R → entry (combination d R) (column P j) ≡ pos 0 → coefficient d j ≡ pos 0
  zero_coefficient d j l z = let q = simp z at (coefficient_of d j l) in mul_cancel (e.positive j l) (simp ring (omega (arith, ints)))

  coefficient_zero : (x : Row) → (h : InSpan R x) → (j : ℕ) → j < length R → entry x (column P j) ≡ pos 0 → coefficient h.d j ≡ pos 0
  coefficient_zero x h j l z = zero_coefficient h.d j l (let q = simp (z, ring) at (span_entry R x h (column P j)) in sym q)

  pub zero_at_columns : (x : Row) → InSpan R x → ((j : ℕ) → j < length R → entry x (column P j) ≡ pos 0) → (c : ℕ) → entry x c ≡ pos 0
  zero_at_columns x h z c =
      let q = combination_zero h.d R c (λ k l. inl (coefficient_zero x h k l (z k l))) in
      let s = span_entry R x h c in
      mul_cancel h.positive (simp ring (omega (arith, ints)))

  -- x lies in the span exactly where it leaves no rest y, where y is 0 at the columns and p x - y is in the span
  pub rest_decides : (x y : Row) (p : ℤ) → ¬ (p ≡ pos 0) → InSpan R (difference p x (pos 1) y) → ((j : ℕ) → j < length R → entry y (column P j) ≡ pos 0) → InSpan R x ↔ IsZero y
  rest_decides x y p np h z = (
    λ i. zero_at_columns y (in_same (record { at = λ c. simp (entry-difference, ring) (omega (arith, ints)) }) (span_difference p (pos 1) i h)) z,
    λ f. span_divide np (in_same (record { at = λ c. let q = f c in simp (entry-difference, entry-times, q) (omega (arith, ints)) }) h),
  )

  pub row_cols : (i : ℕ) → i < length R → length (row_at R i) ≡ n
  row_cols i l = all_at (λ (x : Row). length x ≡ n) (at_place R i l) e.cols

pub zero_by_columns : ZeroByColumns
zero_by_columns = zero_at_columns

pub basis_is_independent : BasisIsIndependent
unfolding coefficient
basis_is_independent n R P e c z i l = zero_coefficient n R P e c i l (z (column P i))

module _ (n : ℕ) (R : List Row) (P : List ℕ) (e : IsEchelonBasis n R P) where
  -- the first column of a row of the span is a pivot
  pub column_found : (x : Row) → InSpan R x → (c : ℕ) → ((d : ℕ) → d < c → entry x d ≡ pos 0) → pos 0 <ℤ entry x c → (j : ℕ) × (j < length R) × (column P j ≡ c)
  column_found x h c before up = elim (find_column (length R) P c) [ inl w ↦ w | inr f ↦ absurd (never f) ]
    where
      never : ((j : ℕ) → j < length R → ¬ (column P j ≡ c)) → ⊥
      never f =
          let q = combination_zero h.d R c (λ k l. elim (dec_lt (column P k) c) [
            | yes lt ↦ inl (coefficient_zero n R P e.basis x h k l (before (column P k) lt))
            | no nlt ↦ inr (e.before k c l (let g = f k l in omega arith))
          ]) in
          let s = span_entry R x h c in
          let m = mul_pos h.positive up in
          omega (arith, ints)
