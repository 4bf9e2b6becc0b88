-- Tableaux: unique for their basis, and kept by a pivot.
use Rattle.pm_vector.proofs.ConeLaws.{combination_none, in_plus, in_same}
use Rattle.pm_vector.proofs.Ring.{ring}
use Rattle.pm_vector.proofs.RowLaws.{entry-difference, entry-plus, entry-times}
use Rattle.pm_vector.proofs.Signs.{mul_cancel, mul_pos}
use Rattle.pm_vector.specs.Cones.{InSpan, combination}
use Rattle.pm_vector.specs.Rows.{Row, difference, entry, times}
use Rattle.pm_vector.proofs.Columns.{coefficient, combination_at, combination_zero}
use Rattle.pm_vector.proofs.Spans.{place_of, same_span, same_span_sym, same_span_trans, span_at, span_difference, span_divide, span_from, span_times}
use Rattle.pm_vector.specs.Bases.{SameSpan, column, row_at}
use Rattle.pm_programs.specs.TableauLaws.{PivotIsTableau, TableauIsUnique}
use Rattle.pm_programs.specs.Tableaux.{IsSign, IsTableau, pivot_row, pivot_rows}
use Rattle.std.proofs.Common.{ap, arith, inl, inr, refl, subst, sym, ◌∙◌}
use Rattle.std.proofs.lemmas.Int.{ints}
use Rattle.std.proofs.lemmas.List.{get_or-set_other, get_or-set_same, length-map, length-set}
use Rattle.std.specs.Prelude.{List, [], length, map, slice_set, suc, zero, ℕ, ◌<◌, ◌∷◌, ◌≡◌}
use lib.IntN.{pos, ℤ, ◌*ℤ◌, ◌-ℤ◌}
use lib.Signed.{◌<ℤ◌}
use native.Mathlib.Decide.{ℕ_discrete}

-- ---- a row of the span is zero if it is 0 in the columns of the basis
span_entry : (R : List Row) (x : Row) → (h : InSpan R x) → (c : ℕ) → h.m *ℤ entry x c ≡ entry (combination h.d R) c
span_entry R x h c = let q = simp (entry-times, entry-plus, combination_none) at (h.same.at c) in omega (arith, ints)

module _ (P : List ℕ) (R : List Row) (e : IsTableau P R) where
  coefficient_of : (d : List ℤ) (j : ℕ) → j < length R → entry (combination d R) (column P j) ≡ coefficient d j *ℤ entry (row_at R j) (column P j)
  coefficient_of d j l = combination_at d R (column P j) j l (λ k lk ne. e.solved k j lk l ne)

  zero_coefficient : (d : List ℤ) (j : ℕ) → j < length R → entry (combination d R) (column P j) ≡ pos 0 → coefficient d j ≡ pos 0
  zero_coefficient d j l z = let q = simp z at (coefficient_of d j l) in mul_cancel (e.positive j l) (simp ring (omega (arith, ints)))

  coefficient_zero : (x : Row) → (h : InSpan R x) → (j : ℕ) → j < length R → entry x (column P j) ≡ pos 0 → coefficient h.d j ≡ pos 0
  coefficient_zero x h j l z = zero_coefficient h.d j l (let q = simp (z, ring) at (span_entry R x h (column P j)) in sym q)

  pub zero_in_columns : (x : Row) → InSpan R x → ((j : ℕ) → j < length R → entry x (column P j) ≡ pos 0) → (c : ℕ) → entry x c ≡ pos 0
  zero_in_columns x h z c =
      let q = combination_zero h.d R c (λ k l. inl (coefficient_zero x h k l (z k l))) in
      let s = span_entry R x h c in
      mul_cancel h.positive (simp ring (omega (arith, ints)))

-- ---- unique
unique_entry : (a b c d : ℤ) → d *ℤ a -ℤ c *ℤ b ≡ pos 0 → a *ℤ d ≡ b *ℤ c
unique_entry a b c d e = omega (arith, ints)

pub tableau_is_unique : TableauIsUnique
tableau_is_unique S P R R' t t' i l v =
    let s = same_span_trans t.span (same_span_sym t'.span) in
    let x = difference (entry (row_at R' i) (column P i)) (row_at R i) (entry (row_at R i) (column P i)) (row_at R' i) in
    let l' : i < length R' = (let a = t.tableau.as_many in let b = t'.tableau.as_many in omega arith) in
    let h : InSpan R x = span_difference (entry (row_at R' i) (column P i)) (entry (row_at R i) (column P i)) (span_at i l) (span_from s (span_at i l')) in
    let z = zero_in_columns P R t.tableau x h (zero_at l l') v in
    unique_entry (entry (row_at R i) v) (entry (row_at R' i) v) (entry (row_at R i) (column P i)) (entry (row_at R' i) (column P i)) (simp entry-difference at z)
  where
    zero_at : i < length R → i < length R' → (k : ℕ) → k < length R → entry (difference (entry (row_at R' i) (column P i)) (row_at R i) (entry (row_at R i) (column P i)) (row_at R' i)) (column P k) ≡ pos 0
    zero_at l l' k lk = elim (ℕ_discrete i k) [
      | yes q ↦ subst (λ m. entry (difference (entry (row_at R' i) (column P i)) (row_at R i) (entry (row_at R i) (column P i)) (row_at R' i)) (column P m) ≡ pos 0) q (simp (entry-difference, ring) (omega (arith, ints)))
      | no ns ↦
          let a = t.tableau.solved i k l lk ns in
          let b = t'.tableau.solved i k l' (let u = t.tableau.as_many in let w = t'.tableau.as_many in omega arith) ns in
          simp (entry-difference, a, b, ring)
    ]

-- ---- the rows after a pivot
row_at-map : (f : Row → Row) (R : List Row) (i : ℕ) → i < length R → row_at (map f R) i ≡ f (row_at R i)
row_at-map f [] i l = absurd (omega arith)
row_at-map f (r ∷ R) zero l = refl
row_at-map f (r ∷ R) (suc i) l = row_at-map f R i (omega arith)

module _ (s : ℤ) (l e : ℕ) (R : List Row) (ll : l < length R) where
  pub length_pivot : length (pivot_rows s l e R) ≡ length R
  length_pivot = length-set _ l _ ∙ length-map R (pivot_row s (row_at R l) e)

  pub pivot_at : row_at (pivot_rows s l e R) l ≡ times s (row_at R l)
  pivot_at = get_or-set_same (map (pivot_row s (row_at R l) e) R) l (times s (row_at R l)) [] (rw length-map ll)

  pub pivot_other : (i : ℕ) → i < length R → ¬ (i ≡ l) → row_at (pivot_rows s l e R) i ≡ pivot_row s (row_at R l) e (row_at R i)
  pivot_other i li ne = get_or-set_other (map (pivot_row s (row_at R l) e) R) l i (times s (row_at R l)) [] ne ∙ row_at-map (pivot_row s (row_at R l) e) R i li

  pub entry_at : (v : ℕ) → entry (row_at (pivot_rows s l e R) l) v ≡ s *ℤ entry (row_at R l) v
  entry_at v = ap (λ x. entry x v) pivot_at ∙ entry-times s (row_at R l) v

  pub entry_other : (i : ℕ) → i < length R → ¬ (i ≡ l) → (v : ℕ)
      → entry (row_at (pivot_rows s l e R) i) v ≡ (s *ℤ entry (row_at R l) e) *ℤ entry (row_at R i) v -ℤ (s *ℤ entry (row_at R i) e) *ℤ entry (row_at R l) v
  entry_other i li ne v = ap (λ x. entry x v) (pivot_other i li ne) ∙ entry-difference (s *ℤ entry (row_at R l) e) (row_at R i) (s *ℤ entry (row_at R i) e) (row_at R l) v

pub column_set : (P : List ℕ) (l e : ℕ) → l < length P → column (slice_set P l e) l ≡ e
column_set P l e h = get_or-set_same P l e 0 h

pub column_other : (P : List ℕ) (l e j : ℕ) → ¬ (j ≡ l) → column (slice_set P l e) j ≡ column P j
column_other P l e j h = get_or-set_other P l j e 0 h

module _ (P : List ℕ) (R : List Row) (s : ℤ) (l e : ℕ) (t : IsTableau P R) (g : IsSign s) (ll : l < length R) (p : pos 0 <ℤ (s *ℤ entry (row_at R l) e)) where
  lp : l < length P
  lp = let a = t.as_many in omega arith

  positive_other : (k d f z : ℤ) → pos 0 <ℤ k → pos 0 <ℤ d → z ≡ pos 0 → pos 0 <ℤ (k *ℤ d -ℤ f *ℤ z)
  positive_other k d f z hk hd hz = let q = mul_pos hk hd in simp (hz, ring) (omega (arith, ints))

  pub pivot_tableau : IsTableau (slice_set P l e) (pivot_rows s l e R)
  pivot_tableau = record {
    as_many = length-set P l e ∙ t.as_many ∙ sym (length_pivot s l e R ll);
    positive = λ i li'.
        let li : i < length R = rw (length_pivot s l e R ll) at li' in
        elim (ℕ_discrete i l) [
          | yes q ↦ subst (λ m. pos 0 <ℤ entry (row_at (pivot_rows s l e R) m) (column (slice_set P l e) m)) (sym q)
              (rw (column_set P l e lp) (rw (entry_at s l e R ll e) p))
          | no ne ↦ rw (column_other P l e i ne) (rw (entry_other s l e R ll i li ne (column P i))
              (positive_other (s *ℤ entry (row_at R l) e) (entry (row_at R i) (column P i)) (s *ℤ entry (row_at R i) e) (entry (row_at R l) (column P i)) p (t.positive i li) (t.solved l i ll li (λ q. ne (sym q)))))
        ];
    solved = λ i j li' lj' nij. at i j (rw (length_pivot s l e R ll) at li') (rw (length_pivot s l e R ll) at lj') nij;
  }
    where
      swapped : (s a b : ℤ) → (s *ℤ a) *ℤ b -ℤ (s *ℤ b) *ℤ a ≡ pos 0
      swapped s a b = simp ring (omega (arith, ints))

      at : (i j : ℕ) → i < length R → j < length R → ¬ (i ≡ j) → entry (row_at (pivot_rows s l e R) i) (column (slice_set P l e) j) ≡ pos 0
      at i j li lj nij = elim (ℕ_discrete i l) [
        | yes q ↦
            let nj : ¬ (j ≡ l) = λ h. nij (q ∙ sym h) in
            let z = t.solved l j ll lj (λ h. nj (sym h)) in
            subst (λ m. entry (row_at (pivot_rows s l e R) m) (column (slice_set P l e) j) ≡ pos 0) (sym q)
            (rw (column_other P l e j nj) (entry_at s l e R ll (column P j) ∙ (simp (z, ring))))
        | no ni ↦ elim (ℕ_discrete j l) [
          | yes q ↦ subst (λ m. entry (row_at (pivot_rows s l e R) i) (column (slice_set P l e) m) ≡ pos 0) (sym q)
              (rw (column_set P l e lp) (entry_other s l e R ll i li ni e ∙ swapped s (entry (row_at R l) e) (entry (row_at R i) e)))
          | no nj ↦
              let y = t.solved i j li lj nij in
              let z = t.solved l j ll lj (λ h. nj (sym h)) in
              rw (column_other P l e j nj) (entry_other s l e R ll i li ni (column P j) ∙ (simp (y, z, ring)))
        ]
      ]

-- ---- the equations stay the same
not_zero : {k : ℤ} → pos 0 <ℤ k → ¬ (k ≡ pos 0)
not_zero h e = omega (arith, ints)

sign_not_zero : {s : ℤ} → IsSign s → ¬ (s ≡ pos 0)
sign_not_zero (inl e) f = omega (arith, ints)
sign_not_zero (inr e) f = omega (arith, ints)

module _ (R : List Row) (s : ℤ) (l e : ℕ) (g : IsSign s) (ll : l < length R) (p : pos 0 <ℤ (s *ℤ entry (row_at R l) e)) where
  new_rows : (k : ℕ) → k < length (pivot_rows s l e R) → InSpan R (row_at (pivot_rows s l e R) k)
  new_rows k lk' =
      let lk : k < length R = rw (length_pivot s l e R ll) at lk' in
      elim (ℕ_discrete k l) [
        | yes q ↦ subst (λ m. InSpan R (row_at (pivot_rows s l e R) m)) (sym q) (subst (λ x. InSpan R x) (sym (pivot_at s l e R ll)) (span_times s (span_at l ll)))
        | no ne ↦ subst (λ x. InSpan R x) (sym (pivot_other s l e R ll k lk ne)) (span_difference (s *ℤ entry (row_at R l) e) (s *ℤ entry (row_at R k) e) (span_at k lk) (span_at l ll))
      ]

  at' : (k : ℕ) → k < length R → InSpan (pivot_rows s l e R) (row_at (pivot_rows s l e R) k)
  at' k lk = span_at k (rw (length_pivot s l e R ll) lk)

  old_l : InSpan (pivot_rows s l e R) (row_at R l)
  old_l = span_divide (sign_not_zero g) (subst (λ x. InSpan (pivot_rows s l e R) x) (pivot_at s l e R ll) (at' l ll))

  old_rows : (k : ℕ) → k < length R → InSpan (pivot_rows s l e R) (row_at R k)
  old_rows k lk = elim (ℕ_discrete k l) [
    | yes q ↦ subst (λ m. InSpan (pivot_rows s l e R) (row_at R m)) (sym q) old_l
    | no ne ↦ span_divide (not_zero p) (in_same
        (record { at = λ c. let w = entry_other s l e R ll k lk ne c in simp (entry-plus, entry-times) (omega (arith, ints)) })
        (in_plus (at' k lk) (span_times (s *ℤ entry (row_at R k) e) old_l)))
  ]

  pub pivot_span : SameSpan R (pivot_rows s l e R)
  pivot_span = same_span R (pivot_rows s l e R)
      (λ r j. let w = place_of j in subst (λ z. InSpan (pivot_rows s l e R) z) w.2 (old_rows w.0 w.1))
      (λ r j. let w = place_of j in subst (λ z. InSpan R z) w.2 (new_rows w.0 w.1))

pub pivot_is_tableau : PivotIsTableau
pivot_is_tableau S P R s l e t g ll p = record {
  tableau = pivot_tableau P R s l e t.tableau g ll p;
  span = same_span_trans (same_span_sym (pivot_span R s l e g ll p)) t.span;
}
