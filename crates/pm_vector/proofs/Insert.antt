-- A row and its column are put into an echelon basis, between the columns below and those above.
use Rattle.pm_vector.proofs.Lists.{all_from}
use Rattle.pm_vector.specs.Divisors.{IsPrimitive}
use Rattle.pm_vector.specs.Rows.{HasCols, Row, entry}
use Rattle.pm_vector.proofs.Columns.{row_cols}
use Rattle.pm_vector.proofs.Spans.{place_of}
use Rattle.pm_vector.specs.Bases.{IsEchelonBasis, column, row_at}
use Rattle.std.proofs.Common.{ap, arith, inl, inr, insert, refl, subst, sym, ◌∙◌}
use Rattle.std.proofs.lemmas.List.Edits.{get_or-insert_above, get_or-insert_at, get_or-insert_below, length-insert}
use Rattle.std.specs.Prelude.{List, [], length, ℕ, ◌+◌, ◌-◌, ◌<◌, ◌≡◌, ◌≤◌, ◌⊎◌}
use lib.IntN.{pos}
use lib.Signed.{◌<ℤ◌}
use native.Mathlib.Decide.{dec_lt, ℕ_discrete}

-- what the new row y with its column c has to be beside the rows of the basis
pub record Fits (n : ℕ) (R : List Row) (P : List ℕ) (k : ℕ) (y : Row) (c : ℕ) : Type 0 where
  pub place : k ≤ length R
  pub cols : length y ≡ n
  pub primitive : IsPrimitive y
  pub positive : pos 0 <ℤ entry y c
  pub others : (i : ℕ) → i < length R → entry (row_at R i) c ≡ pos 0
  pub reduced : (i : ℕ) → i < length R → entry y (column P i) ≡ pos 0
  pub before : (d : ℕ) → d < c → entry y d ≡ pos 0
  pub lower : (i : ℕ) → i < k → column P i < c
  pub upper : (i : ℕ) → k ≤ i → i < length R → c < column P i

module _ (n : ℕ) (R : List Row) (P : List ℕ) (k : ℕ) (y : Row) (c : ℕ) (e : IsEchelonBasis n R P) (f : Fits n R P k y c) where
  -- the place i holds what stood at j, or the new row
  record Old (i : ℕ) : Type 0 where
    j : ℕ
    within : j < length R
    row : row_at (insert R k y) i ≡ row_at R j
    col : column (insert P k c) i ≡ column P j
    side : ((j < k) × (i ≡ j)) ⊎ ((k ≤ j) × (i ≡ j + 1))

  record New (i : ℕ) : Type 0 where
    here : i ≡ k
    row : row_at (insert R k y) i ≡ y
    col : column (insert P k c) i ≡ c

  count : length (insert R k y) ≡ length R + 1
  count = length-insert R k y f.place

  in_columns : k ≤ length P
  in_columns = let a = e.as_many in let b = f.place in omega arith

  old_below : (i : ℕ) → i < k → Old i
  old_below i l = let b = f.place in record {
    j = i;
    within = omega arith;
    row = get_or-insert_below R k y [] i l f.place;
    col = get_or-insert_below P k c 0 i l in_columns;
    side = inl (l, refl);
  }

  old_above : (j : ℕ) → k ≤ j → j < length R → Old (j + 1)
  old_above j l lj = record {
    j = j;
    within = lj;
    row = get_or-insert_above R k y [] j l f.place;
    col = get_or-insert_above P k c 0 j l in_columns;
    side = inr (l, refl);
  }

  place : (i : ℕ) → i < length (insert R k y) → Old i ⊎ New i
  place i l = elim (dec_lt i k) [
    | yes b ↦ inl (old_below i b)
    | no nb ↦ elim (ℕ_discrete i k) [
      | yes q ↦ inr (record {
        here = q;
        row = subst (λ m. row_at (insert R k y) m ≡ y) (sym q) (get_or-insert_at R k y [] f.place);
        col = subst (λ m. column (insert P k c) m ≡ c) (sym q) (get_or-insert_at P k c 0 in_columns);
      })
      | no nq ↦ inl (let a = count in subst Old (let s : i - 1 + 1 ≡ i = omega arith in s) (old_above (i - 1) (omega arith) (omega arith)))
    ]
  ]

  entry_is : (r s : Row) (d d' : ℕ) → r ≡ s → d ≡ d' → entry r d ≡ entry s d'
  entry_is r s d d' a b = cc

  inserted_cols : HasCols n (insert R k y)
  inserted_cols = all_from (λ (x : Row). length x ≡ n) (insert R k y) (λ r i. let w = place_of i in subst (λ (x : Row). length x ≡ n) w.2 (at w.0 w.1))
    where
      at : (i : ℕ) → i < length (insert R k y) → length (row_at (insert R k y) i) ≡ n
      at i l = elim (place i l) [ inl o ↦ ap length o.row ∙ row_cols n R P e.basis o.j o.within | inr w ↦ ap length w.row ∙ f.cols ]

  -- two places that hold old rows are in the order of these
  one_place : {i j : ℕ} (o : Old i) (q : Old j) → o.j ≡ q.j → i ≡ j
  one_place o q s = elim o.side [
    | inl a ↦ elim q.side [ inl b ↦ (let x = a.1 in let y = b.1 in omega arith) | inr b ↦ absurd (let x = a.0 in let y = b.0 in omega arith) ]
    | inr a ↦ elim q.side [ inl b ↦ absurd (let x = a.0 in let y = b.0 in omega arith) | inr b ↦ (let x = a.1 in let y = b.1 in omega arith) ]
  ]

  in_order : {i j : ℕ} (o : Old i) (q : Old j) → i < j → o.j < q.j
  in_order o q l = elim o.side [
    | inl a ↦ elim q.side [ inl b ↦ (let x = a.1 in let y = b.1 in omega arith) | inr b ↦ (let x = a.0 in let y = b.0 in omega arith) ]
    | inr a ↦ elim q.side [ inl b ↦ absurd (let x = a.0 in let x' = a.1 in let y = b.0 in let y' = b.1 in omega arith) | inr b ↦ (let x = a.1 in let y = b.1 in omega arith) ]
  ]

  old_first : {i : ℕ} (o : Old i) → i < k → o.j < k
  old_first o l = elim o.side [ inl a ↦ a.0 | inr a ↦ absurd (let x = a.0 in let y = a.1 in omega arith) ]

  old_last : {i : ℕ} (o : Old i) → k < i → k ≤ o.j
  old_last o l = elim o.side [ inl a ↦ absurd (let x = a.0 in let y = a.1 in omega arith) | inr a ↦ a.0 ]

  inserted_positive : (i : ℕ) → i < length (insert R k y) → pos 0 <ℤ entry (row_at (insert R k y) i) (column (insert P k c) i)
  inserted_positive i l = elim (place i l) [
    | inl o ↦ subst (λ z. pos 0 <ℤ z) (sym (entry_is _ _ _ _ o.row o.col)) (e.positive o.j o.within)
    | inr w ↦ subst (λ z. pos 0 <ℤ z) (sym (entry_is _ _ _ _ w.row w.col)) f.positive
  ]

  inserted_primitive : (i : ℕ) → i < length (insert R k y) → IsPrimitive (row_at (insert R k y) i)
  inserted_primitive i l = elim (place i l) [ inl o ↦ subst IsPrimitive (sym o.row) (e.primitive o.j o.within) | inr w ↦ subst IsPrimitive (sym w.row) f.primitive ]

  inserted_reduced : (i j : ℕ) → i < length (insert R k y) → j < length (insert R k y) → ¬ (i ≡ j) → entry (row_at (insert R k y) i) (column (insert P k c) j) ≡ pos 0
  inserted_reduced i j li lj ne = elim (place i li) [
    | inl o ↦ elim (place j lj) [
      | inl q ↦ entry_is _ _ _ _ o.row q.col ∙ e.reduced o.j q.j o.within q.within (λ s. ne (one_place o q s))
      | inr v ↦ entry_is _ _ _ _ o.row v.col ∙ f.others o.j o.within
    ]
    | inr w ↦ elim (place j lj) [ inl q ↦ entry_is _ _ _ _ w.row q.col ∙ f.reduced q.j q.within | inr v ↦ absurd (ne (w.here ∙ sym v.here)) ]
  ]

  inserted_ascending : (i j : ℕ) → i < j → j < length (insert R k y) → column (insert P k c) i < column (insert P k c) j
  inserted_ascending i j l lj = elim (place i (omega arith)) [
    | inl o ↦ elim (place j lj) [
      | inl q ↦ (let h = e.ascending o.j q.j (in_order o q l) q.within in let a = o.col in let b = q.col in omega arith)
      | inr v ↦ (let t = v.here in let h = f.lower o.j (old_first o (omega arith)) in let a = o.col in let b = v.col in omega arith)
    ]
    | inr w ↦ elim (place j lj) [
      | inl q ↦ (let t = w.here in let h = f.upper q.j (old_last q (omega arith)) q.within in let a = w.col in let b = q.col in omega arith)
      | inr v ↦ absurd (let t = w.here in let u = v.here in omega arith)
    ]
  ]

  inserted_before : (i d : ℕ) → i < length (insert R k y) → d < column (insert P k c) i → entry (row_at (insert R k y) i) d ≡ pos 0
  inserted_before i d l ld = elim (place i l) [
    | inl o ↦ entry_is _ _ d d o.row refl ∙ e.before o.j d o.within (let a = o.col in omega arith)
    | inr w ↦ entry_is _ _ d d w.row refl ∙ f.before d (let a = w.col in omega arith)
  ]

  pub inserted : IsEchelonBasis n (insert R k y) (insert P k c)
  inserted = record {
    basis = record {
      cols = inserted_cols;
      as_many = (let a = length-insert P k c in_columns in let b = count in let d = e.as_many in omega arith);
      positive = inserted_positive;
      reduced = inserted_reduced;
      primitive = inserted_primitive;
    };
    ascending = inserted_ascending;
    before = inserted_before;
  }
