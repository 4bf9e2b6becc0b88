-- A new row joins an echelon basis, whose rows are first reduced by it.
use Rattle.pm_vector.proofs.ConeLaws.{in_line, in_plus, in_same}
use Rattle.pm_vector.proofs.Lists.{Among, all_from, among_append, among_append_left, among_append_right, here, there}
use Rattle.pm_vector.proofs.Ring.{ring}
use Rattle.pm_vector.proofs.RowLaws.{entry-difference, entry-plus, entry-times}
use Rattle.pm_vector.proofs.Signs.{pos_cancel, mul_pos}
use Rattle.pm_vector.specs.Cones.{InSpan}
use Rattle.pm_vector.specs.Divisors.{IsPrimitive, IsPrimitiveOf}
use Rattle.pm_vector.specs.Rows.{Row, entry}
use Rattle.pm_vector.proofs.Columns.{row_cols}
use Rattle.pm_vector.proofs.Insert.{inserted}
use Rattle.pm_vector.proofs.Spans.{at_place, place_of, same_span, span_difference, span_divide, span_times}
use Rattle.pm_vector.specs.Bases.{IsEchelonBasis, SameSpan, column, row_at}
use Rattle.pm_elim.proofs.ReductionLaws.{once_keeps_zero, once_length, once_zero}
use Rattle.pm_elim.proofs.StepLaws.{p_positive as factor_positive, step_entry, step_multiple}
use Rattle.pm_vector.specs.Rounds.{AllReducedOnce, IsNewRow}
use Rattle.pm_vector.specs.Steps.{IsReducedOnce, IsStep}
use Rattle.std.proofs.Common.{ap, arith, inl, inr, insert, subst, sym, ◌∙◌}
use Rattle.std.proofs.lemmas.Bool.{cases_lt}
use Rattle.std.proofs.lemmas.Int.{ints}
use Rattle.std.proofs.lemmas.List.{take-append-drop}
use Rattle.std.specs.Prelude.{List, [], drop, length, take, ℕ, ◌++◌, ◌<◌, ◌∷◌, ◌≡◌, ◌≤◌}
use lib.IntN.{pos}
use lib.Signed.{◌<ℤ◌}

-- ---- a row of the result
primitive_of_some : {v w : Row} (c : ℕ) → IsPrimitiveOf v w → pos 0 <ℤ entry w c → IsPrimitive w
primitive_of_some c p up = elim p.divided [
  | inl z ↦ absurd (let e = z.1 c in omega (arith, ints))
  | inr d ↦ d.3
]

module _ {r x m : Row} {c : ℕ} (s : IsStep r x c m) where
  -- where x is 0 the step keeps the sign
  step_keeps_sign : (i : ℕ) → entry x i ≡ pos 0 → pos 0 <ℤ entry r i → pos 0 <ℤ entry m i
  step_keeps_sign i z up =
      pos_cancel (step_multiple s).positive (let e = step_entry s i in let k = mul_pos (factor_positive s.factors) up in let w = simp (z, ring) at e in omega (arith, ints))

  step_not_before : (k : ℕ) → ((d : ℕ) → d < k → entry r d ≡ pos 0) → k ≤ c
  step_not_before k before = elim (cases_lt c k) [ inl less ↦ absurd (s.not_zero (before c less)) | inr more ↦ more ]

  -- the old row, from the new one and x
  step_back : {R : List Row} → InSpan R m → InSpan R x → InSpan R r
  step_back {R} h k =
      let up = factor_positive s.factors in
      span_divide {R = R} {k = s.p} (λ e. omega (arith, ints)) (in_same (record { at = λ i. let e = step_entry s i in simp (entry-plus, entry-times) (omega (arith, ints)) }) (in_plus (span_times (step_multiple s).g h) (span_times s.q k)))

  step_forth : {R : List Row} → InSpan R r → InSpan R x → InSpan R m
  step_forth {R} h k =
      let up = (step_multiple s).positive in
      span_divide {R = R} {k = (step_multiple s).g} (λ e. omega (arith, ints)) (in_same (record { at = λ i. let e = step_entry s i in simp (entry-difference, entry-times) (omega (arith, ints)) }) (span_difference s.p s.q h k))

-- ---- the reduced rows
module _ (n : ℕ) (B B' : List Row) (P : List ℕ) (x : Row) (c : ℕ) (e : IsEchelonBasis n B P) (w : IsNewRow n B P x c) (a : AllReducedOnce B x c B') where
  in_old : (i : ℕ) → i < length B' → i < length B
  in_old i l = let m = a.as_many in omega arith

  once : (i : ℕ) → i < length B' → IsReducedOnce (row_at B i) x c (row_at B' i)
  once i l = a.rows i (in_old i l)

  cols_kept : (i : ℕ) → i < length B' → length (row_at B' i) ≡ n
  cols_kept i l = once_length (once i l) n (row_cols n B P e.basis i (in_old i l)) w.cols

  positive_kept : (i : ℕ) → i < length B' → pos 0 <ℤ entry (row_at B' i) (column P i)
  positive_kept i l = let up = e.positive i (in_old i l) in elim (once i l) [
    | inl s ↦ subst (λ (r : Row). pos 0 <ℤ entry r (column P i)) (sym s.1) up
    | inr s ↦ step_keeps_sign s (column P i) (w.reduced i (in_old i l)) up
  ]

  primitive_kept : (i : ℕ) → i < length B' → IsPrimitive (row_at B' i)
  primitive_kept i l = elim (once i l) [
    | inl s ↦ subst IsPrimitive (sym s.1) (e.primitive i (in_old i l))
    | inr s ↦ primitive_of_some (column P i) s.result (positive_kept i l)
  ]

  before_kept : (i d : ℕ) → i < length B' → d < column P i → entry (row_at B' i) d ≡ pos 0
  before_kept i d l less = elim (once i l) [
    | inl s ↦ subst (λ (r : Row). entry r d ≡ pos 0) (sym s.1) (e.before i d (in_old i l) less)
    | inr s ↦
        let after = step_not_before s (column P i) (λ k lk. e.before i k (in_old i l) lk) in
        once_keeps_zero (inr s) d (e.before i d (in_old i l) less) (w.before d (omega arith))
  ]

  reduced_basis : IsEchelonBasis n B' P
  reduced_basis = record {
    basis = record {
      cols = all_from (λ (r : Row). length r ≡ n) B' (λ r i. let p = place_of i in subst (λ (z : Row). length z ≡ n) p.2 (cols_kept p.0 p.1));
      as_many = e.as_many ∙ sym a.as_many;
      positive = positive_kept;
      reduced = λ i j li lj ne. once_keeps_zero (once i li) (column P j) (e.reduced i j (in_old i li) (in_old j lj) ne) (w.reduced j (in_old j lj));
      primitive = primitive_kept;
    };
    ascending = λ i j l lj. e.ascending i j l (in_old j lj);
    before = before_kept;
  }

  -- ---- the new row between them
  not_pivot : (i : ℕ) → i < length B → ¬ (column P i ≡ c)
  not_pivot i l same = let z = w.reduced i l in let up = w.positive in let s : entry x (column P i) ≡ entry x c = ap (entry x) same in omega (arith, ints)

  module _ (k : ℕ) (place : k ≤ length B) (lower : (i : ℕ) → i < k → column P i < c) (upper : k < length B → c ≤ column P k) where
    above : (i : ℕ) → k ≤ i → i < length B → c < column P i
    above i ki l =
        let u = upper (omega arith) in
        let ne = not_pivot i l in
        elim (cases_lt k i) [
          | inl less ↦ (let s = e.ascending k i less l in omega arith)
          | inr more ↦ (let same : k ≡ i = omega arith in let s : column P k ≡ column P i = ap (column P) same in elim (cases_lt c (column P i)) [ inl h ↦ h | inr h ↦ absurd (ne (omega arith)) ])
        ]

    pub joined_basis : IsEchelonBasis n (insert B' k x) (insert P k c)
    joined_basis = inserted n B' P k x c reduced_basis (record {
      place = (let m = a.as_many in omega arith);
      cols = w.cols;
      primitive = w.primitive;
      positive = w.positive;
      others = λ i l. once_zero (once i l);
      reduced = λ i l. w.reduced i (in_old i l);
      before = w.before;
      lower = lower;
      upper = λ i ki l. above i ki (in_old i l);
    })

among_insert : {xs : List Row} (k : ℕ) (x : Row) {r : Row} → Among r xs → Among r (insert xs k x)
among_insert {xs} k x {r} i = elim (among_append (take k xs) (drop k xs) (subst (λ ys. Among r ys) (sym (take-append-drop k xs)) i)) [
  | inl j ↦ among_append_left (x ∷ drop k xs) j
  | inr j ↦ among_append_right (take k xs) (there j)
]

insert_among : (xs : List Row) (k : ℕ) (x : Row) {r : Row} → Among r (insert xs k x) → Among r (x ∷ xs)
insert_among xs k x {r} i = elim (among_append (take k xs) (x ∷ drop k xs) i) [ inl j ↦ there (whole (among_append_left (drop k xs) j)) | inr j ↦ first j ]
  where
    whole : {z : Row} → Among z (take k xs ++ drop k xs) → Among z xs
    whole {z} j = subst (λ ys. Among z ys) (take-append-drop k xs) j

    first : {z : Row} → Among z (x ∷ drop k xs) → Among z (x ∷ xs)
    first here = here
    first (there j) = there (whole (among_append_right (take k xs) j))

module _ (B B' : List Row) (x : Row) (c k : ℕ) (a : AllReducedOnce B x c B') where
  in_new : InSpan (insert B' k x) x
  in_new = in_line (among_append_right (take k B') here)

  old_inside : (i : ℕ) → i < length B → InSpan (insert B' k x) (row_at B i)
  old_inside i l =
      let m = a.as_many in
      let h : InSpan (insert B' k x) (row_at B' i) = in_line (among_insert k x (at_place B' i (omega arith))) in
      elim (a.rows i l) [ inl s ↦ subst (λ (r : Row). InSpan (insert B' k x) r) s.1 h | inr s ↦ step_back s h in_new ]

  in_old_x : InSpan (B ++ x ∷ []) x
  in_old_x = in_line (among_append_right B here)

  new_inside : (i : ℕ) → i < length B' → InSpan (B ++ x ∷ []) (row_at B' i)
  new_inside i l =
      let m = a.as_many in
      let h : InSpan (B ++ x ∷ []) (row_at B i) = in_line (among_append_left (x ∷ []) (at_place B i (omega arith))) in
      elim (a.rows i (omega arith)) [ inl s ↦ subst (λ (r : Row). InSpan (B ++ x ∷ []) r) (sym s.1) h | inr s ↦ step_forth s h in_old_x ]

  of_old : {r : Row} → Among r B → InSpan (insert B' k x) r
  of_old j = let p = place_of j in subst (λ (z : Row). InSpan (insert B' k x) z) p.2 (old_inside p.0 p.1)

  of_last : {r : Row} → Among r (x ∷ []) → InSpan (insert B' k x) r
  of_last here = in_new
  of_last (there j) = elim j [ ]

  of_new : {r : Row} → Among r (x ∷ B') → InSpan (B ++ x ∷ []) r
  of_new here = in_old_x
  of_new (there j) = let p = place_of j in subst (λ (z : Row). InSpan (B ++ x ∷ []) z) p.2 (new_inside p.0 p.1)

  pub joined_span : SameSpan (insert B' k x) (B ++ x ∷ [])
  joined_span = same_span (insert B' k x) (B ++ x ∷ []) (λ r i. of_new (insert_among B' k x i)) (λ r i. elim (among_append B (x ∷ []) i) [ inl j ↦ of_old j | inr j ↦ of_last j ])
