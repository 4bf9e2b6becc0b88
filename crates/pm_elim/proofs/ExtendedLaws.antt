-- The span of the extended list of a basis: the rows whose first entries are the products of the basis rows with the others.
use Rattle.pm_vector.proofs.ConeLaws.{combination_none}
use Rattle.pm_vector.proofs.Lists.{all_from}
use Rattle.pm_vector.proofs.RowLaws.{dot-nil, dot-same, dot-times, dot_comm, entry-plus, entry-times}
use Rattle.pm_vector.proofs.Signs.{mul_cancel}
use Rattle.pm_vector.specs.Cones.{InSpan, combination}
use Rattle.pm_vector.specs.Rows.{HasCols, Row, dot, entry, times}
use Rattle.pm_vector.proofs.Spans.{place_of}
use Rattle.pm_vector.specs.Bases.{row_at}
use Rattle.pm_elim.proofs.BasisLaws.{row_length}
use Rattle.pm_vector.proofs.DotLaws.{dot-unit, dot_same_within, entry-column, entry-combination}
use Rattle.pm_vector.specs.Evidence.{IsExtended, column_of, unit}
use Rattle.std.proofs.Common.{ap, append_assoc, arith, inl, inr, refl, replicate, subst, sym, ◌∙◌}
use Rattle.std.proofs.lemmas.Bool.{cases_eq, cases_lt}
use Rattle.std.proofs.lemmas.Int.{ints}
use Rattle.std.proofs.lemmas.List.{ext_get_or, get_or-append_right, get_or-drop, get_or-replicate, get_or-set_other, get_or-set_same, get_or_append_left, get_or_past, take_more, length-append, length-map, length-replicate, length-set}
use Rattle.std.specs.Prelude.{List, [], take, ◌∷◌, drop, length, ℕ, ◌++◌, ◌+◌, ◌-◌, ◌<◌, ◌≡◌, ◌≤◌, ◌≢◌}
use lib.IntN.{pos, ℤ, ◌*ℤ◌}
use lib.Signed.{lt_z_yes}

-- ---- the entries of a unit row
pub length-unit : (n i : ℕ) → length (unit n i) ≡ n
length-unit n i = length-set (replicate n (pos 0)) i (pos 1) ∙ length-replicate n (pos 0)

pub unit_one : (n i : ℕ) → i < n → entry (unit n i) i ≡ pos 1
unit_one n i l = get_or-set_same (replicate n (pos 0)) i (pos 1) (pos 0) (rw length-replicate l)

pub unit_zero : (n i j : ℕ) → j ≢ i → entry (unit n i) j ≡ pos 0
unit_zero n i j ne = get_or-set_other (replicate n (pos 0)) i j (pos 1) (pos 0) ne ∙ zeros
  where
    zeros : entry (replicate n (pos 0)) j ≡ pos 0
    zeros = elim (cases_lt j n) [ inl l ↦ get_or-replicate n j (pos 0) (pos 0) l | inr l ↦ get_or_past (replicate n (pos 0)) j (pos 0) (rw length-replicate l) ]

unit_swap : (n i j : ℕ) → i < n → j < n → entry (unit n i) j ≡ entry (unit n j) i
unit_swap n i j li lj = elim (cases_eq j i) [
  | inl same ↦ let other = sym same in unit_at n i j li same ∙ sym (unit_at n j i lj other)
  | inr ne ↦ unit_zero n i j ne ∙ sym (unit_zero n j i (λ s. ne (sym s)))
]
  where
    unit_at : (n i j : ℕ) → i < n → j ≡ i → entry (unit n i) j ≡ pos 1
    unit_at n i j l s = rw s (unit_one n i l)

pub unit_more : (n i k : ℕ) (old row new : Row) (z : ℤ) → k < n → row ≡ old ++ take k (unit n i) → new ≡ row ++ z ∷ [] → z ≡ entry (unit n i) k → new ≡ old ++ take (k + 1) (unit n i)
unit_more n i k old row new z l r e f = rw (e, r, f, take_more (unit n i) k (pos 0) (rw length-unit l), append_assoc) refl

-- ---- the extended list
-- there is one
pub extended_unique : (n : ℕ) (B X X' : List Row) → IsExtended n B X → IsExtended n B X' → X ≡ X'
extended_unique n B X X' x y = ext_get_or [] X X' (x.as_many ∙ sym y.as_many) (λ i l. let a = x.as_many in x.rows i (omega arith) ∙ sym (y.rows i (omega arith)))

module _ (n : ℕ) (B X : List Row) (cols : HasCols n B) (x : IsExtended n B X) where
  extended_length : (i : ℕ) → i < n → length (row_at X i) ≡ length B + n
  extended_length i l = rw (x.rows i l, length-append, length-unit, length-map) refl

  pub extended_cols : HasCols (length B + n) X
  extended_cols = all_from (λ (r : Row). length r ≡ length B + n) X (λ r i. let p = place_of i in subst (λ (z : Row). length z ≡ length B + n) p.2 (extended_length p.0 (let a = x.as_many in let l = p.1 in omega arith)))

  -- the first columns are the basis rows
  pub first_entry : (i j : ℕ) → i < n → j < length B → entry (row_at X i) j ≡ entry (row_at B j) i
  first_entry i j l lj = rw (x.rows i l) (get_or_append_left (column_of B i) (unit n i) (pos 0) j (rw length-map lj) ∙ entry-column B i j)

  last_entry : (i j : ℕ) → i < n → entry (row_at X i) (length B + j) ≡ entry (unit n i) j
  last_entry i j l = rw (x.rows i l) (get_or-append_right (column_of B i) (unit n i) (length B) (length B + j) (pos 0) (length-map B (λ (b : Row). entry b i)) (omega arith) ∙ ap (entry (unit n i)) (let e : length B + j - length B ≡ j = omega arith in e))

  row_none : (i : ℕ) → n ≤ i → row_at X i ≡ []
  row_none i l = get_or_past X i [] (let a = x.as_many in omega arith)

  -- ---- as rows
  first_column : (j : ℕ) → j < length B → (i : ℕ) → entry (column_of X j) i ≡ entry (row_at B j) i
  first_column j lj i = elim (cases_lt i n) [
    | inl l ↦ entry-column X j i ∙ first_entry i j l lj
    | inr l ↦
        let b = row_length n B j cols lj in
        let z : entry (row_at B j) i ≡ pos 0 = get_or_past (row_at B j) i (pos 0) (omega arith) in
        entry-column X j i ∙ (rw (row_none i l, z) refl)
  ]

  last_column : (j : ℕ) → j < n → (i : ℕ) → entry (column_of X (length B + j)) i ≡ entry (unit n j) i
  last_column j lj i = elim (cases_lt i n) [
    | inl l ↦ entry-column X (length B + j) i ∙ last_entry i j l ∙ unit_swap n i j l lj
    | inr l ↦
        let z : entry (unit n j) i ≡ pos 0 = get_or_past (unit n j) i (pos 0) (rw length-unit l) in
        entry-column X (length B + j) i ∙ (rw (row_none i l, z) refl)
  ]

  -- ---- the span
  combination_first : (d : List ℤ) (j : ℕ) → j < length B → entry (combination d X) j ≡ dot (row_at B j) d
  combination_first d j lj = entry-combination d X j ∙ dot-same d (column_of X j) (row_at B j) (first_column j lj) ∙ dot_comm d (row_at B j)

  pub combination_last : (d : List ℤ) (j : ℕ) → j < n → entry (combination d X) (length B + j) ≡ entry d j
  combination_last d j lj = entry-combination d X (length B + j) ∙ dot-same d (column_of X (length B + j)) (unit n j) (last_column j lj) ∙ dot-unit d n j lj

  past_column : (c : ℕ) → length B + n ≤ c → (i : ℕ) → entry (column_of X c) i ≡ pos 0
  past_column c lc i = entry-column X c i ∙ (elim (cases_lt i n) [
    | inl l ↦ get_or_past (row_at X i) c (pos 0) (rw (extended_length i l) lc)
    | inr l ↦ (rw (row_none i l) refl)
  ])

  combination_past : (d : List ℤ) (c : ℕ) → length B + n ≤ c → entry (combination d X) c ≡ pos 0
  combination_past d c lc = entry-combination d X c ∙ dot-same d (column_of X c) [] (past_column c lc) ∙ dot-nil d

  span_multiple : (w : Row) (h : InSpan X w) (c : ℕ) → h.m *ℤ entry w c ≡ entry (combination h.d X) c
  span_multiple w h c = let q = simp (entry-times, entry-plus, combination_none) at (h.same.at c) in omega (arith, ints)

  tail_entry : (w : Row) (h : InSpan X w) (i : ℕ) → i < n → entry h.d i ≡ entry (times h.m (drop (length B) w)) i
  tail_entry w h i l = sym (combination_last h.d i l) ∙ sym (span_multiple w h (length B + i)) ∙ sym (entry-times h.m (drop (length B) w) i ∙ ap (λ (z : ℤ). h.m *ℤ z) (get_or-drop (length B) w i (pos 0)))

  -- a row of the span has the products as first entries
  pub products_of_span : (w : Row) → InSpan X w → (j : ℕ) → j < length B → entry w j ≡ dot (row_at B j) (drop (length B) w)
  products_of_span w h j lj =
      let b = row_length n B j cols lj in
      mul_cancel h.positive
      (span_multiple w h j ∙ combination_first h.d j lj ∙ dot_same_within (row_at B j) h.d (times h.m (drop (length B) w)) (λ i l. tail_entry w h i (omega arith)) ∙ dot-times (row_at B j) h.m (drop (length B) w))

  -- and a row that has them is in the span
  pub span_of_products : (w : Row) → length w ≡ length B + n → ((j : ℕ) → j < length B → entry w j ≡ dot (row_at B j) (drop (length B) w)) → InSpan X w
  span_of_products w lw products = record {
    m = pos 1;
    c = [];
    d = drop (length B) w;
    positive = lt_z_yes tt;
    not_negative = tt;
    same = record { at = λ c. let e = same_entry c in simp (entry-times, entry-plus, combination_none) (omega (arith, ints)) };
  }
    where
      same_entry : (c : ℕ) → entry (combination (drop (length B) w) X) c ≡ entry w c
      same_entry c = elim (cases_lt c (length B)) [
        | inl first ↦ combination_first (drop (length B) w) c first ∙ sym (products c first)
        | inr more ↦ elim (cases_lt c (length B + n)) [
          | inl last ↦
              let e : length B + (c - length B) ≡ c = omega arith in
              ap (entry (combination (drop (length B) w) X)) (sym e) ∙ combination_last (drop (length B) w) (c - length B) (omega arith) ∙ get_or-drop (length B) w (c - length B) (pos 0) ∙ ap (entry w) e
          | inr l ↦ combination_past (drop (length B) w) c l ∙ sym (get_or_past w c (pos 0) (omega arith))
        ]
      ]
