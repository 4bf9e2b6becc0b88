-- The start is a dictionary of the program's equations.
use Rattle.pm_vector.proofs.Ring.{ring}
use Rattle.pm_vector.proofs.RowLaws.{entry-times, length-times}
use Rattle.pm_vector.proofs.Signs.{mul_pos}
use Rattle.pm_vector.specs.Cones.{InSpan}
use Rattle.pm_vector.specs.Numbers.{Ratio}
use Rattle.pm_vector.specs.Rows.{HasCols, Row, entry, ratio_at, times}
use Rattle.pm_vector.proofs.Spans.{place_of, same_span, span_at, span_divide, span_times}
use Rattle.pm_vector.specs.Bases.{SameSpan, column, row_at}
use Rattle.pm_fraction.specs.Fractions.{IsLowestTermsOf, ratio_of}
use Rattle.pm_geom.specs.Programs.{IsTimes}
use Rattle.pm_programs.specs.Dictionaries.{IsDictionaryOf, at}
use Rattle.pm_programs.specs.Tableaux.{IsTableau}
use Rattle.pm_simplex.proofs.KeyColumns.{nat_eq_no}
use Rattle.pm_simplex.proofs.Solutions.{more_same}
use Rattle.pm_simplex.proofs.StartRows.{start_body, start_help}
use Rattle.pm_simplex.proofs.Systems.{count_system, entry_further, entry_help, entry_low, entry_none, entry_own, help_none, help_slack, is_phase_system, is_system, own_apart, own_high, own_inside, own_later, own_low, own_once, scale_objective, scale_other, scale_positive}
use Rattle.pm_simplex.specs.Comparisons.{IsApart, IsCovered, IsShaped, rows_of}
use Rattle.pm_simplex.specs.Running.{IsLaidOut}
use Rattle.pm_simplex.specs.StartLaws.{StartIsAbsorbing}
use Rattle.pm_simplex.specs.Systems.{denominator_of, equations_of, scale_of, system_of, whole_of}
use Rattle.pm_simplex.specs.Starts.{IsStart, body_at, help_of}
use Rattle.pm_simplex.specs.States.{auxiliary, columns_of}
use Rattle.pm_simplex.specs.declared.dictionary.Dictionary.{Dictionary}
use Rattle.pm_simplex.specs.declared.layout.Layout.{Layout}
use Rattle.std.proofs.Common.{ap, arith, eq-eqb, inl, inr, refl, subst, sym, ◌∙◌}
use Rattle.std.proofs.lemmas.Bool.{le-ltb, lt-ltb}
use Rattle.std.proofs.lemmas.Int.{ints}
use Rattle.std.proofs.lemmas.List.{get_or-map, length-append, length-map}
use Rattle.std.specs.Prelude.{List, [], length, map, suc, zero, ℕ, ◌+◌, ◌++◌, ◌-◌, ◌<◌, ◌∷◌, ◌≡◌, ◌≤◌, ◌⊎◌}
use lib.IntN.{neg_ℤ, negsuc, pos, ℤ, ◌*ℤ◌}
use lib.Signed.{◌<ℤ◌}
use native.Mathlib.Decide.{dec_lt, ℕ_discrete}

past : (x : Row) (v : ℕ) → length x ≤ v → entry x v ≡ pos 0
past [] v l = refl
past (a ∷ x) zero l = absurd (omega arith)
past (a ∷ x) (suc v) l = past x v (omega arith)

-- rows of n entries are 0 past them
rows_past : (n : ℕ) (X : List Row) → HasCols n X → (i v : ℕ) → n ≤ v → entry (row_at X i) v ≡ pos 0
rows_past n [] h i v l = refl
rows_past n (x ∷ X) h zero v l = past x v (let e = h.0 in omega arith)
rows_past n (x ∷ X) h (suc i) v l = rows_past n X h.1 i v l

rows_append : (n : ℕ) (X Y : List Row) → HasCols n X → HasCols n Y → HasCols n (X ++ Y)
rows_append n [] Y h k = k
rows_append n (x ∷ X) Y h k = (h.0, rows_append n X Y h.1 k)

append_left : (X Y : List Row) (i : ℕ) → i < length X → row_at (X ++ Y) i ≡ row_at X i
append_left [] Y i l = absurd (omega arith)
append_left (x ∷ X) Y zero l = refl
append_left (x ∷ X) Y (suc i) l = append_left X Y i (omega arith)

append_last : (X : List Row) (C : Row) → row_at (X ++ C ∷ []) (length X) ≡ C
append_last [] C = refl
append_last (x ∷ X) C = append_last X C

-- ---- the start's tableau: the equations, with opposite signs
opposite_rows : List Row → List Row
opposite_rows S = map (times (negsuc 0)) S

count_opposite : (S : List Row) → length (opposite_rows S) ≡ length S
unfolding opposite_rows
count_opposite S = length-map S (times (negsuc 0))

opposite_at : (S : List Row) (i : ℕ) → i < length S → row_at (opposite_rows S) i ≡ times (negsuc 0) (row_at S i)
unfolding opposite_rows
opposite_at S i l = get_or-map (times (negsuc 0)) S i [] [] l

opposite_entry : (S : List Row) (i v : ℕ) → i < length S → entry (row_at (opposite_rows S) i) v ≡ neg_ℤ (entry (row_at S i) v)
opposite_entry S i v l = ap (λ x. entry x v) (opposite_at S i l) ∙ entry-times (negsuc 0) (row_at S i) v ∙ minus (entry (row_at S i) v)
  where
    minus : (a : ℤ) → negsuc 0 *ℤ a ≡ neg_ℤ a
    minus a = omega (arith, ints)

opposite_span : (S : List Row) → SameSpan (opposite_rows S) S
opposite_span S = same_span (opposite_rows S) S
    (λ r j. let w = place_of j in let l : w.0 < length S = (let a = w.1 in let e = count_opposite S in omega arith) in subst (λ z. InSpan S z) (sym (opposite_at S w.0 l) ∙ w.2) (span_times (negsuc 0) (span_at w.0 l)))
    (λ r j. let w = place_of j in let l = w.1 in span_divide {k = negsuc 0} (λ e. omega (arith, ints)) (subst (λ z. InSpan (opposite_rows S) z) (opposite_at S w.0 l ∙ ap (times (negsuc 0)) w.2) (span_at w.0 (let e = count_opposite S in omega arith))))

lowest_as : (n m n' m' : ℤ) (r : Ratio) → n ≡ n' → m ≡ m' → IsLowestTermsOf (ratio_of n' m') r → IsLowestTermsOf (ratio_of n m) r
lowest_as n m n' m' r e f h = subst (λ u. IsLowestTermsOf (ratio_of u m) r) (sym e) (subst (λ u. IsLowestTermsOf (ratio_of n' u) r) (sym f) h)

module _ (y : Layout) (A B : List Row) (c : List Ratio) (d : Dictionary) (na : length A ≡ y.slacks) (nb : length B ≡ y.residuals) (nc : length c ≡ y.cols) (ca : HasCols y.cols A) (cb : HasCols y.cols B) (st : IsStart y A B c d)
    (k : ℤ) (C : Row) (tc : IsTimes k c C) where
  S : List Row
  S = system_of y A B C k

  count_S : length (system_of y A B C k) ≡ y.slacks + y.residuals + 2
  count_S = count_system y A B C k

  count_AB : length (A ++ B) ≡ y.slacks + y.residuals
  count_AB = let e = length-append A B in omega arith

  widths : (i v : ℕ) → i < y.slacks + y.residuals + 1 → y.cols ≤ v → entry (row_at ((A ++ B) ++ C ∷ []) i) v ≡ pos 0
  widths i v li lv = rows_past y.cols ((A ++ B) ++ C ∷ []) (rows_append y.cols (A ++ B) (C ∷ []) (rows_append y.cols A B ca cb) (tc.cols ∙ nc, tt)) i v lv

  R : List Row
  R = opposite_rows (system_of y A B C k)

  entry_R : (i v : ℕ) → i < y.slacks + y.residuals + 2 → entry (row_at (opposite_rows (system_of y A B C k)) i) v ≡ neg_ℤ (entry (row_at (system_of y A B C k) i) v)
  entry_R i v l = opposite_entry (system_of y A B C k) i v (let e = count_S in omega arith)

  own_R : (i : ℕ) → i < y.slacks + y.residuals + 2 → entry (row_at (opposite_rows (system_of y A B C k)) i) (column d.basis.items i) ≡ scale_of y k i
  own_R i l = entry_R i (column d.basis.items i) l ∙ ap neg_ℤ (entry_own y A B C k i (column d.basis.items i) l (st.basis i l)) ∙ twice (scale_of y k i)
    where
      twice : (a : ℤ) → neg_ℤ (neg_ℤ a) ≡ a
      twice a = omega (arith, ints)

  tableau : IsTableau d.basis.items (opposite_rows (system_of y A B C k))
  tableau = record {
    as_many = st.basis_count ∙ sym (count_opposite (system_of y A B C k) ∙ count_S);
    positive = λ i li. let l : i < y.slacks + y.residuals + 2 = (let e = count_opposite (system_of y A B C k) in let f = count_S in omega arith) in subst (λ u. pos 0 <ℤ u) (sym (own_R i l)) (scale_positive y k i tc.positive);
    solved = λ i j li lj n.
        let l : i < y.slacks + y.residuals + 2 = (let e = count_opposite (system_of y A B C k) in let f = count_S in omega arith) in
        let m : j < y.slacks + y.residuals + 2 = (let e = count_opposite (system_of y A B C k) in let f = count_S in omega arith) in
        entry_R i (column d.basis.items j) l
        ∙ ap neg_ℤ (entry_none y A B C k i (column d.basis.items j) l (let e = st.basis j m in let a = own_later y j in omega arith) (λ q. n (own_once y i j (sym (sym (st.basis j m) ∙ q)))) (λ q. own_apart y j (sym (st.basis j m) ∙ q)));
  }

  -- ---- the fractions
  whole_lowest : (n m : ℤ) (r : Ratio) → m ≡ pos 1 → r ≡ ratio_of n (pos 1) → IsLowestTermsOf (ratio_of n (pos 1)) r → IsLowestTermsOf (ratio_of n m) r
  whole_lowest n m r e f h = lowest_as n m n (pos 1) r refl e h

  entries : (i j : ℕ) → i < length d.basis.items → j < length d.others.items
      → IsLowestTermsOf (ratio_of (neg_ℤ (entry (row_at (opposite_rows (system_of y A B C k)) i) (column d.others.items j))) (entry (row_at (opposite_rows (system_of y A B C k)) i) (column d.basis.items i))) (at (rows_of d) i j)
  entries i j li lj =
      let l : i < y.slacks + y.residuals + 2 = (let e = st.basis_count in omega arith) in
      let m : j < y.cols + 1 = (let e = st.others_count in omega arith) in
      let row = st.rows i l in
      let frac = row.fractions j m in
      lowest_as _ _ (entry (row_at (system_of y A B C k) i) (column d.others.items j)) (scale_of y k i) (at (rows_of d) i j)
      (ap neg_ℤ (entry_R i (column d.others.items j) l) ∙ twice (entry (row_at (system_of y A B C k) i) (column d.others.items j))) (own_R i l)
      (record { divisible = λ e. (let p = scale_positive y k i tc.positive in omega (arith, ints)); reduced = frac.reduced; same = same_at i j l m })
    where
      twice : (a : ℤ) → neg_ℤ (neg_ℤ a) ≡ a
      twice a = omega (arith, ints)

      one_by_one : (u w : ℤ) → w ≡ pos 1 → u *ℤ w ≡ u *ℤ pos 1
      one_by_one u w e = ap (λ z. u *ℤ z) e

      whole_same : (r : Ratio) (n e s : ℤ) → r ≡ ratio_of n (pos 1) → e ≡ n → s ≡ pos 1 → r.num *ℤ s ≡ e *ℤ r.den
      whole_same r n e s q f g = subst (λ (x : Ratio). x.num *ℤ s ≡ e *ℤ x.den) (sym q) (ap (λ z. n *ℤ z) g ∙ ap (λ z. z *ℤ pos 1) (sym f))

      body_low : (i j : ℕ) → i < y.slacks + y.residuals → body_at y A B c i j ≡ ratio_of (entry (row_at (A ++ B) i) j) (pos 1)
      body_low i j l = let t = lt-ltb i (y.slacks + y.residuals) l in rw t refl

      body_objective : (j : ℕ) → body_at y A B c (y.slacks + y.residuals) j ≡ ratio_at c j
      body_objective j = let t = le-ltb (y.slacks + y.residuals) (y.slacks + y.residuals) (omega arith) in let u = eq-eqb (y.slacks + y.residuals) (y.slacks + y.residuals) refl in rw (t, u) refl

      body_last : (i j : ℕ) → y.slacks + y.residuals < i → body_at y A B c i j ≡ ratio_of (pos 0) (pos 1)
      body_last i j l = let t = le-ltb i (y.slacks + y.residuals) (omega arith) in let u = nat_eq_no i (y.slacks + y.residuals) (λ e. omega arith) in rw (t, u) refl

      in_body : (i j : ℕ) → i < y.slacks + y.residuals + 2 → (lj : j < y.cols) → (r : Ratio) → r ≡ body_at y A B c i j → r.num *ℤ scale_of y k i ≡ entry (row_at (system_of y A B C k) i) j *ℤ r.den
      in_body i j l lj r e = elim (dec_lt i (y.slacks + y.residuals)) [
        | yes m ↦ whole_same r (entry (row_at (A ++ B) i) j) (entry (row_at (system_of y A B C k) i) j) (scale_of y k i) (e ∙ body_low i j m)
            (entry_low y A B C k i j l lj ∙ ap (λ x. entry x j) (append_left (A ++ B) (C ∷ []) i (let q = count_AB in omega arith))) (scale_other y k i (λ q. omega arith))
        | no n ↦ elim (ℕ_discrete i (y.slacks + y.residuals)) [
          | yes q ↦ subst (λ z. r.num *ℤ scale_of y k z ≡ entry (row_at (system_of y A B C k) z) j *ℤ r.den) (sym q)
              (objective_same r (scale_of y k (y.slacks + y.residuals)) (entry (row_at (system_of y A B C k) (y.slacks + y.residuals)) j) (e ∙ ap (λ z. body_at y A B c z j) q ∙ body_objective j) (scale_objective y k)
              (entry_low y A B C k (y.slacks + y.residuals) j (omega arith) lj ∙ ap (λ x. entry x j) (ap (row_at ((A ++ B) ++ C ∷ [])) (sym count_AB) ∙ append_last (A ++ B) C)))
          | no nq ↦ whole_same r (pos 0) (entry (row_at (system_of y A B C k) i) j) (scale_of y k i) (e ∙ body_last i j (omega arith)) (entry_further y A B C k na nb i j (omega arith) lj l) (scale_other y k i nq)
        ]
      ]
        where
          objective_same : (r : Ratio) (s e : ℤ) → r ≡ ratio_at c j → s ≡ k → e ≡ entry C j → r.num *ℤ s ≡ e *ℤ r.den
          objective_same r s e q f g =
              subst (λ (x : Ratio). x.num *ℤ s ≡ e *ℤ x.den) (sym q)
              (let t = tc.same j (let a = nc in omega arith) in turned (ratio_at c j).num (ratio_at c j).den s e f g t)
            where
              turned : (n m s e : ℤ) → s ≡ k → e ≡ entry C j → entry C j *ℤ m ≡ k *ℤ n → n *ℤ s ≡ e *ℤ m
              turned n m s e f g t = ap (λ z. n *ℤ z) f ∙ swap n k ∙ sym t ∙ ap (λ z. z *ℤ m) (sym g)
                where
                  swap : (a b : ℤ) → a *ℤ b ≡ b *ℤ a
                  swap a b = omega (arith, ints)

      in_help : (i : ℕ) → i < y.slacks + y.residuals + 2 → (r : Ratio) → r ≡ ratio_of (help_of y i) (pos 1) → r.num *ℤ scale_of y k i ≡ entry (row_at (system_of y A B C k) i) (auxiliary y) *ℤ r.den
      in_help i l r e = elim (ℕ_discrete i (y.slacks + y.residuals)) [
        | no n ↦ whole_same r (help_of y i) (entry (row_at (system_of y A B C k) i) (auxiliary y)) (scale_of y k i) e (entry_help y A B C k i l) (scale_other y k i n)
        | yes q ↦ none r (scale_of y k i) (entry (row_at (system_of y A B C k) i) (auxiliary y)) (e ∙ ap (λ z. ratio_of z (pos 1)) (help_none y i (omega arith) (λ u. omega arith))) (entry_help y A B C k i l ∙ help_none y i (omega arith) (λ u. omega arith))
      ]
        where
          none : (r : Ratio) (s e : ℤ) → r ≡ ratio_of (pos 0) (pos 1) → e ≡ pos 0 → r.num *ℤ s ≡ e *ℤ r.den
          none r s e q f = subst (λ (x : Ratio). x.num *ℤ s ≡ e *ℤ x.den) (sym q) (zeros s e f)
            where
              zeros : (s e : ℤ) → e ≡ pos 0 → pos 0 *ℤ s ≡ e *ℤ pos 1
              zeros s e f = omega (arith, ints)

      same_at : (i j : ℕ) → i < y.slacks + y.residuals + 2 → j < y.cols + 1 → (at (rows_of d) i j).num *ℤ scale_of y k i ≡ entry (row_at (system_of y A B C k) i) (column d.others.items j) *ℤ (at (rows_of d) i j).den
      same_at i j l m = elim (dec_lt j y.cols) [
        | yes lj ↦ subst (λ v. (at (rows_of d) i j).num *ℤ scale_of y k i ≡ entry (row_at (system_of y A B C k) i) v *ℤ (at (rows_of d) i j).den) (sym (st.others j lj))
            (in_body i j l lj (at (rows_of d) i j) ((st.rows i l).entries j m ∙ start_body y A B c i j lj))
        | no n ↦
            let e : j ≡ y.cols = omega arith in
            subst (λ z. (at (rows_of d) i z).num *ℤ scale_of y k i ≡ entry (row_at (system_of y A B C k) i) (column d.others.items z) *ℤ (at (rows_of d) i z).den) (sym e)
            (subst (λ v. (at (rows_of d) i y.cols).num *ℤ scale_of y k i ≡ entry (row_at (system_of y A B C k) i) v *ℤ (at (rows_of d) i y.cols).den) (sym st.help)
            (in_help i l (at (rows_of d) i y.cols) ((st.rows i l).entries y.cols (omega arith) ∙ start_help y A B c i)))
      ]

  dictionary : IsDictionaryOf (system_of y A B C k) d.basis.items d.others.items (rows_of d)
  dictionary = record { whole = opposite_rows (system_of y A B C k); tableau = record { tableau = tableau; span = opposite_span (system_of y A B C k) }; entries = entries }

  -- ---- the columns
  covered : (v : ℕ) → v < columns_of y → IsCovered d.basis.items d.others.items v
  covered v l = elim (dec_lt v y.cols) [
    | yes m ↦ inr (v, (let e = st.others_count in omega arith), st.others v m)
    | no n ↦ elim (dec_lt v (auxiliary y)) [
      | yes m ↦ inl (v - y.cols, (let e = st.basis_count in omega arith), st.basis (v - y.cols) (omega arith) ∙ own_low y (v - y.cols) (omega arith) ∙ omega arith)
      | no p ↦ elim (ℕ_discrete v (auxiliary y)) [
        | yes q ↦ inr (y.cols, (let e = st.others_count in omega arith), st.help ∙ sym q)
        | no nq ↦ inl (v - y.cols - 1, (let e = st.basis_count in omega arith), st.basis (v - y.cols - 1) (omega arith) ∙ own_high y (v - y.cols - 1) (omega arith) ∙ omega arith)
      ]
    ]
  ]

  other_is : (j : ℕ) → j < y.cols + 1 → ((j < y.cols) × (column d.others.items j ≡ j)) ⊎ ((j ≡ y.cols) × (column d.others.items j ≡ auxiliary y))
  other_is j l = elim (dec_lt j y.cols) [ yes m ↦ inl (m, st.others j m) | no n ↦ (let e : j ≡ y.cols = omega arith in inr (e, ap (column d.others.items) e ∙ st.help)) ]

  apart : IsApart (columns_of y) d.basis.items d.others.items
  apart = record {
    basic_inside = λ i li. let l : i < y.slacks + y.residuals + 2 = (let e = st.basis_count in omega arith) in (let e = st.basis i l in let a = own_inside y i l in omega arith);
    other_inside = λ j lj. elim (other_is j (let e = st.others_count in omega arith)) [ inl w ↦ (let a = w.0 in let b = w.1 in omega arith) | inr w ↦ (let b = w.1 in omega arith) ];
    apart = λ i j li lj e.
        let l : i < y.slacks + y.residuals + 2 = (let q = st.basis_count in omega arith) in
        let b = st.basis i l in
        let o = own_later y i in
        elim (other_is j (let q = st.others_count in omega arith)) [ inl w ↦ (let a = w.0 in let u = w.1 in omega arith) | inr w ↦ own_apart y i (sym b ∙ e ∙ w.1) ];
    different = λ j n lj ln ne e.
        elim (other_is j (let q = st.others_count in omega arith)) [
          | inl w ↦ elim (other_is n (let q = st.others_count in omega arith)) [ inl u ↦ ne (sym w.1 ∙ e ∙ u.1) | inr u ↦ (let a = w.0 in let b = w.1 in let f = u.1 in omega arith) ]
          | inr w ↦ elim (other_is n (let q = st.others_count in omega arith)) [ inl u ↦ (let a = u.0 in let b = w.1 in let f = u.1 in omega arith) | inr u ↦ ne (w.0 ∙ sym u.0) ]
        ];
  }

  in_rows : (i : ℕ) → i < length (rows_of d) → i < y.slacks + y.residuals + 2
  in_rows i l = let e = length-map d.rows.items (λ r. r.items) in let f = st.rows_count in omega arith

  shaped : IsShaped y d
  shaped = record {
    rectangular = record { count = st.rows_count ∙ sym st.basis_count; places = record { each = λ i li. (st.rows i (in_rows i li)).count ∙ sym st.others_count } };
    cover = covered;
    variables = λ i li. (let l : i < y.slacks + y.residuals + 2 = (let e = st.basis_count in omega arith) in let b = st.basis i l in let o = own_later y i in let p = y.some in omega arith);
  }

  pub start_laid_out : IsLaidOut y (system_of y A B C k) d
  start_laid_out = record {
    shaped = shaped;
    apart = apart;
    dictionary = dictionary;
    fits = λ i li j lj. ((st.rows i (let e = st.basis_count in omega arith)).fractions j (let e = st.others_count in omega arith)).in_range;
    some = (let e = st.others_count in omega arith);
    constant = st.others 0 y.some;
  }

  help_num : (i : ℕ) (h : ℤ) → i < y.slacks + y.residuals + 2 → help_of y i ≡ h → (at (rows_of d) i y.cols).num ≡ h
  help_num i h l e = ap (λ (r : Ratio). r.num) ((st.rows i l).entries y.cols (omega arith) ∙ start_help y A B c i) ∙ e

-- ---- the objective as a whole row
pub whole_is_times : (c : List Ratio) → ((i : ℕ) → i < length c → pos 0 <ℤ (ratio_at c i).den) → IsTimes (denominator_of c) c (whole_of c)
unfolding denominator_of whole_of
whole_is_times [] h = record { positive = omega (arith, ints); cols = refl; denominators = h; same = λ i l. absurd (omega arith) }
whole_is_times (f ∷ r) h =
    let t = whole_is_times r (λ i l. h (suc i) (omega arith)) in
    let f0 = h 0 (omega arith) in
    record { positive = mul_pos t.positive f0; cols = ap suc (length-times f.den (whole_of r) ∙ t.cols); denominators = h; same = λ i l. same_at i l t }
  where
    first_same : (k d n : ℤ) → (k *ℤ n) *ℤ d ≡ (k *ℤ d) *ℤ n
    first_same k d n = simp ring

    same_at : (i : ℕ) → i < length (f ∷ r) → IsTimes (denominator_of r) r (whole_of r) → entry ((denominator_of r *ℤ f.num) ∷ times f.den (whole_of r)) i *ℤ (ratio_at (f ∷ r) i).den ≡ (denominator_of r *ℤ f.den) *ℤ (ratio_at (f ∷ r) i).num
    same_at zero l t = first_same (denominator_of r) f.den f.num
    same_at (suc i) l t = ap (λ u. u *ℤ (ratio_at r i).den) (entry-times f.den (whole_of r) i) ∙ more_same (denominator_of r) f.den f.num (entry (whole_of r) i) (ratio_at r i).den (ratio_at r i).num (t.same i (omega arith))

pub start_is_absorbing : StartIsAbsorbing
unfolding equations_of
start_is_absorbing y A B c d na nb nc ca cb st =
    let t = whole_is_times c (λ i l. positive_den i (omega arith)) in
    record {
      equations = record {
        k = denominator_of c;
        objective = whole_of c;
        times = t;
        system = is_system y A B (whole_of c) (denominator_of c) na nb (widths y A B c d na nb nc ca cb st (denominator_of c) (whole_of c) t) t.positive;
        phase = is_phase_system y A B (whole_of c) (denominator_of c) na nb;
      };
      absorbing = record {
        laid_out = start_laid_out y A B c d na nb nc ca cb st (denominator_of c) (whole_of c) t;
        cols = st.others_count;
        help = st.help;
        count = st.basis_count;
        objective = st.basis (y.slacks + y.residuals) (omega arith) ∙ own_high y (y.slacks + y.residuals) (omega arith) ∙ omega arith;
        phase = st.basis (y.slacks + y.residuals + 1) (omega arith) ∙ own_high y (y.slacks + y.residuals + 1) (omega arith) ∙ omega arith;
        slacks = λ i l. st.basis i (omega arith) ∙ own_low y i (omega arith);
        residuals = λ i u l. st.basis i (omega arith) ∙ own_low y i (omega arith);
        done = λ i l u. absurd (omega arith);
        helped = λ i l. (let e = help_num y A B c d na nb nc ca cb st (denominator_of c) (whole_of c) t i (pos 1) (omega arith) (help_slack y i l) in omega (arith, ints));
        not_helped = λ i u l. help_num y A B c d na nb nc ca cb st (denominator_of c) (whole_of c) t i (pos 0) (omega arith) (help_none y i u (λ e. omega arith));
      };
    }
  where
    objective_entry : (j : ℕ) → j < y.cols → at (rows_of d) (y.slacks + y.residuals) j ≡ ratio_at c j
    objective_entry j l =
        let t = le-ltb (y.slacks + y.residuals) (y.slacks + y.residuals) (omega arith) in
        let u = eq-eqb (y.slacks + y.residuals) (y.slacks + y.residuals) refl in
        (st.rows (y.slacks + y.residuals) (omega arith)).entries j (omega arith) ∙ start_body y A B c (y.slacks + y.residuals) j l ∙ rw (t, u) refl

    positive_den : (j : ℕ) → j < y.cols → pos 0 <ℤ (ratio_at c j).den
    positive_den j l = subst (λ (r : Ratio). pos 0 <ℤ r.den) (objective_entry j l) ((st.rows (y.slacks + y.residuals) (omega arith)).fractions j (omega arith)).reduced.positive
