-- Independent rows: one more, two lists that are orthogonal, and the unit rows.
use Rattle.pm_vector.proofs.ConeLaws.{combination_none, dot_combination_lines, in_combination_lines, in_line, in_line_opposite, in_same, lines_opposite}
use Rattle.pm_vector.proofs.Lists.{Among, all_append, all_at}
use Rattle.pm_vector.proofs.Ring.{ring}
use Rattle.pm_vector.proofs.RowLaws.{dot-nil, dot-plus, dot-same, dot_comm, entry-opposite, entry-plus, entry-times, length-zeros, zeros}
use Rattle.pm_vector.proofs.Signs.{sq_nonneg}
use Rattle.pm_vector.specs.Cones.{InSpan, IsIndependent, combination}
use Rattle.pm_vector.specs.Rows.{HasCols, IsZero, Row, dot, entry, plus, times}
use Rattle.pm_vector.proofs.Rank.{independent_are_few, mul_not_zero}
use Rattle.pm_vector.proofs.Spans.{at_place, span_divide}
use Rattle.pm_vector.specs.Bases.{row_at}
use Rattle.std.proofs.Common.{ap, arith, inl, inr, refl, sym, ◌∙◌}
use Rattle.std.proofs.lemmas.Bool.{cases_lt}
use Rattle.std.proofs.lemmas.Int.{by_lt_z, ints}
use Rattle.std.proofs.lemmas.List.{get_or-drop, get_or-take, get_or_past, length-append}
use Rattle.std.specs.Prelude.{List, [], drop, length, suc, take, zero, ℕ, ◌++◌, ◌+◌, ◌-◌, ◌<◌, ◌∷◌, ◌≡◌, ◌≤◌, ◌⊎◌}
use lib.IntN.{*ℤ-zero, pos, ℤ, ◌*ℤ◌, ◌+ℤ◌}
use lib.Signed.{lt_z_yes, ◌≤ℤ◌}

pub decide_zero : (k : ℤ) → (k ≡ pos 0) ⊎ ¬ (k ≡ pos 0)
decide_zero k = by_lt_z k (pos 0) (λ h. inr (λ e. omega (arith, ints))) (λ h. by_lt_z (pos 0) k (λ g. inr (λ e. omega (arith, ints))) (λ g. inl (omega (arith, ints))))

-- ---- one more
module _ (B : List Row) (x : Row) (free : IsIndependent B) (no : ¬ (InSpan B x)) where
  first_zero : (k : ℤ) (d : List ℤ) → IsZero (combination (k ∷ d) (x ∷ B)) → k ≡ pos 0
  first_zero k d z = elim (decide_zero k) [
    | inl e ↦ e
    | inr ne ↦ absurd (no (span_divide ne (in_same (record { at = λ i. let q = simp (entry-plus, entry-times) at (z i) in simp (entry-times, entry-opposite) (omega (arith, ints)) })
        (lines_opposite B (combination d B) (in_combination_lines [] B d B (λ g i. (in_line i, in_line_opposite i)))))))
  ]

  rest_zero : (k : ℤ) (d : List ℤ) → IsZero (combination (k ∷ d) (x ∷ B)) → IsZero (combination d B)
  rest_zero k d z i = let e = first_zero k d z in let q = simp (entry-plus, entry-times, e, ring) at (z i) in omega (arith, ints)

  pub independent_more : IsIndependent (x ∷ B)
  independent_more [] z i l = refl
  independent_more (k ∷ d) z zero l = first_zero k d z
  independent_more (k ∷ d) z (suc i) l = free d (rest_zero k d z) i (omega arith)

-- ---- a row whose product with itself is 0
self_nonneg : (x : Row) → pos 0 ≤ℤ dot x x
self_nonneg [] = omega (arith, ints)
self_nonneg (a ∷ x) = let p = sq_nonneg a in let q = self_nonneg x in omega (arith, ints)

square_zero : (a : ℤ) → a *ℤ a ≡ pos 0 → a ≡ pos 0
square_zero a e = elim (decide_zero a) [ inl z ↦ z | inr ne ↦ absurd (mul_not_zero ne ne e) ]

pub self_zero : (x : Row) → dot x x ≡ pos 0 → IsZero x
self_zero [] e i = refl
self_zero (a ∷ x) e zero = let p = sq_nonneg a in let q = self_nonneg x in square_zero a (omega (arith, ints))
self_zero (a ∷ x) e (suc i) = let p = sq_nonneg a in let q = self_nonneg x in self_zero x (omega (arith, ints)) i

-- ---- orthogonal lists
pub combination_append : (B E : List Row) (c : List ℤ) (i : ℕ) → entry (combination c (B ++ E)) i ≡ entry (combination (take (length B) c) B) i +ℤ entry (combination (drop (length B) c) E) i
combination_append [] E c i = omega (arith, ints)
combination_append (b ∷ B) E [] i = refl
combination_append (b ∷ B) E (k ∷ c) i = let h = combination_append B E c i in simp (entry-plus, entry-times, h) (omega (arith, ints))

module _ (B E : List Row) (free : IsIndependent B) (free' : IsIndependent E) (apart : (b e : Row) → Among b B → Among e E → dot b e ≡ pos 0) where
  apart_combination : (c d : List ℤ) → dot (combination c B) (combination d E) ≡ pos 0
  apart_combination c d = dot_combination_lines (combination c B) d E (λ e j. dot_comm (combination c B) e ∙ dot_combination_lines e c B (λ b i. dot_comm e b ∙ apart b e i j))

  -- of two orthogonal rows whose sum is 0 the first is 0
  sum_zero : (u v : Row) → dot u v ≡ pos 0 → ((i : ℕ) → entry u i +ℤ entry v i ≡ pos 0) → IsZero u
  sum_zero u v z e =
      let s : dot u (plus u v) ≡ dot u [] = dot-same u (plus u v) [] (λ i. entry-plus u v i ∙ e i) in
      let p = simp (dot-plus, z) at s in
      self_zero u (omega (arith, ints, dot-nil u))

  sum_zero_second : (u v : Row) → dot u v ≡ pos 0 → ((i : ℕ) → entry u i +ℤ entry v i ≡ pos 0) → IsZero v
  sum_zero_second u v z e i = let p = sum_zero u v z e i in let q = e i in omega (arith, ints)

  parts : (c : List ℤ) → IsZero (combination c (B ++ E)) → (i : ℕ) → entry (combination (take (length B) c) B) i +ℤ entry (combination (drop (length B) c) E) i ≡ pos 0
  parts c z i = sym (combination_append B E c i) ∙ z i

  pub independent_both : IsIndependent (B ++ E)
  independent_both c z i l =
      let u = combination (take (length B) c) B in
      let v = combination (drop (length B) c) E in
      let a = apart_combination (take (length B) c) (drop (length B) c) in
      elim (cases_lt i (length B)) [
        | inl less ↦ sym (get_or-take (length B) c i (pos 0) less) ∙ free (take (length B) c) (sum_zero u v a (parts c z)) i less
        | inr more ↦
            let back : length B + (i - length B) ≡ i = omega arith in
            let n = length-append B E in
            ap (λ j. entry c j) (sym back) ∙ sym (get_or-drop (length B) c (i - length B) (pos 0)) ∙ free' (drop (length B) c) (sum_zero_second u v a (parts c z)) (i - length B) (omega arith)
      ]

-- ---- unit rows
shifted : List Row → List Row
shifted [] = []
shifted (x ∷ X) = (pos 0 ∷ x) ∷ shifted X

pub units : ℕ → List Row
units zero = []
units (suc n) = (pos 1 ∷ zeros n) ∷ shifted (units n)

shifted_length : (X : List Row) → length (shifted X) ≡ length X
unfolding shifted
shifted_length [] = refl
shifted_length (x ∷ X) = ap suc (shifted_length X)

shifted_cols : (n : ℕ) (X : List Row) → HasCols n X → HasCols (suc n) (shifted X)
unfolding shifted
shifted_cols n [] h = tt
shifted_cols n (x ∷ X) h = (ap suc h.0, shifted_cols n X h.1)

pub units_length : (n : ℕ) → length (units n) ≡ n
unfolding units
units_length zero = refl
units_length (suc n) = ap suc (shifted_length (units n) ∙ units_length n)

pub units_cols : (n : ℕ) → HasCols n (units n)
unfolding units
units_cols zero = tt
units_cols (suc n) = (ap suc (length-zeros n), shifted_cols n (units n) (units_cols n))

shifted_first : (c : List ℤ) (X : List Row) → entry (combination c (shifted X)) 0 ≡ pos 0
unfolding shifted
shifted_first [] X = refl
shifted_first (k ∷ c) [] = refl
shifted_first (k ∷ c) (x ∷ X) = let h = shifted_first c X in simp (entry-plus, entry-times, h, ring)

shifted_later : (c : List ℤ) (X : List Row) (i : ℕ) → entry (combination c (shifted X)) (suc i) ≡ entry (combination c X) i
unfolding shifted
shifted_later [] X i = refl
shifted_later (k ∷ c) [] i = refl
shifted_later (k ∷ c) (x ∷ X) i = let h = shifted_later c X i in simp (entry-plus, entry-times, h)

entry_zeros : (n i : ℕ) → entry (zeros n) i ≡ pos 0
unfolding zeros
entry_zeros zero i = refl
entry_zeros (suc n) zero = refl
entry_zeros (suc n) (suc i) = entry_zeros n i

zero_plus : (x y a : ℤ) → x ≡ pos 0 → y ≡ a → x +ℤ y ≡ a
zero_plus x y a e f = omega (arith, ints)

-- the first unit row, times k, past its first entry
first_later : (n : ℕ) (k : ℤ) (i : ℕ) → entry (times k (pos 1 ∷ zeros n)) (suc i) ≡ pos 0
first_later n k i = entry-times k (zeros n) i ∙ ap (λ (z : ℤ). k *ℤ z) (entry_zeros n i) ∙ *ℤ-zero k

-- a combination of the unit rows has the coefficients as entries
pub units_entry : (n : ℕ) (c : List ℤ) (i : ℕ) → i < n → entry (combination c (units n)) i ≡ entry c i
unfolding units
units_entry zero c i l = absurd (omega arith)
units_entry (suc n) [] i l = refl
units_entry (suc n) (k ∷ c) zero l = let h = shifted_first c (units n) in simp (entry-plus, entry-times, h, ring) (omega (arith, ints))
units_entry (suc n) (k ∷ c) (suc i) l =
    entry-plus (times k (pos 1 ∷ zeros n)) (combination c (shifted (units n))) (suc i)
    ∙ zero_plus (entry (times k (pos 1 ∷ zeros n)) (suc i)) (entry (combination c (shifted (units n))) (suc i)) (entry c i) (first_later n k i) (shifted_later c (units n) i ∙ units_entry n c i (omega arith))

pub units_past : (n : ℕ) (c : List ℤ) (i : ℕ) → n ≤ i → entry (combination c (units n)) i ≡ pos 0
unfolding units
units_past zero c i l = combination_none c i
units_past (suc n) [] i l = refl
units_past (suc n) (k ∷ c) zero l = absurd (omega arith)
units_past (suc n) (k ∷ c) (suc i) l =
    entry-plus (times k (pos 1 ∷ zeros n)) (combination c (shifted (units n))) (suc i)
    ∙ zero_plus (entry (times k (pos 1 ∷ zeros n)) (suc i)) (entry (combination c (shifted (units n))) (suc i)) (pos 0) (first_later n k i) (shifted_later c (units n) i ∙ units_past n c i (omega arith))

pub units_independent : (n : ℕ) → IsIndependent (units n)
units_independent n c z i l = let e = units_length n in sym (units_entry n c i (omega arith)) ∙ z i

-- every row of n entries is in the span of the unit rows
pub in_units : (n : ℕ) (x : Row) → length x ≡ n → InSpan (units n) x
in_units n x lx = record {
  m = pos 1;
  c = [];
  d = x;
  positive = lt_z_yes tt;
  not_negative = tt;
  same = record { at = λ i. let e = unit_sum i in simp (entry-times, entry-plus, combination_none, ring) (omega (arith, ints)) };
}
  where
    unit_sum : (i : ℕ) → entry (combination x (units n)) i ≡ entry x i
    unit_sum i = elim (cases_lt i n) [ inl l ↦ units_entry n x i l | inr l ↦ units_past n x i l ∙ sym (get_or_past x i (pos 0) (omega arith)) ]

-- ---- orthogonal lists of rows with n entries
module _ (n : ℕ) (B E : List Row) (hb : HasCols n B) (he : HasCols n E) (free : IsIndependent B) (free' : IsIndependent E)
    (apart : (b e : Row) → Among b B → Among e E → dot b e ≡ pos 0) where
  both_cols : HasCols n (B ++ E)
  both_cols = all_append (λ (x : Row). length x ≡ n) B E hb he

  pub orthogonal_are_few : length B + length E ≤ n
  orthogonal_are_few =
      let few = independent_are_few (B ++ E) (units n) (independent_both B E free free' apart)
      (λ i l. in_units n (row_at (B ++ E) i) (all_at (λ (x : Row). length x ≡ n) (at_place (B ++ E) i l) both_cols)) in
      let e = units_length n in
      let s = length-append B E in
      omega arith
